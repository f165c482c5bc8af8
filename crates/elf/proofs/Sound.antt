-- Of a file that is not refused each segment is sound: stored, inside, and apart from those before it. A fault that is none passed every test.
use Prim.Native.Nat.{ℕ, zero, suc, ◌+◌, ◌<◌, ◌≤◌}
use mathlib.Core.Bool.{Bool, true, false}
use mathlib.Core.List.{List}
use mathlib.Core.Path.{◌≡◌, refl}
use native.Mathlib.Decide.{ℕ_discrete}
use native.Mathlib.Omega.{arith}
use borrow.Author.Tests.{leb-true}
use lib.Dec.{leb}
use lib.ListN.{length}
use Rattle.std.specs.Prelude.{Ok, Err}
use Rattle.promise.specs.Pick.{pick}
use Rattle.elf.specs.declared.Fault.{Fault}
use Rattle.elf.specs.declared.Header.{Header}
use Rattle.elf.specs.declared.Space.{Space}
use Rattle.elf.specs.Header.{header, count, loads}
use Rattle.elf.specs.Home.{outside}
use Rattle.elf.specs.Faults.{Verdict, none, or, head_fault, table_fault, overlaps, segment_fault, header_fault, segments_fault, file_fault}

-- a test that has to hold, and one that has to fail, where there is no fault
pass : (b : Bool) (x : Verdict) (f : Fault) → pick b x (Err f) ≡ none → (b ≡ true) × (x ≡ none)
pass true x f e = (refl, e)
pass false x f e = cc

stop : (b : Bool) (x : Verdict) (f : Fault) → pick b (Err f) x ≡ none → (b ≡ false) × (x ≡ none)
stop true x f e = cc
stop false x f e = (refl, e)

-- of two faults neither is one
pub or_none : (v w : Verdict) → or v w ≡ none → (v ≡ none) × (w ≡ none)
or_none (Ok _) w e = (refl, e)
or_none (Err f) w e = cc

pub record Sound (space : Space) (file : List ℕ) (h : Header) (i : ℕ) : Type 0 where
  pub stored : h.offset + h.filesz ≤ length file
  pub sizes : h.filesz ≤ h.memsz
  pub small : h.memsz ≤ 65536
  pub inside : outside space h ≡ false
  pub apart : overlaps space file h i 0 ≡ false

module _ (space : Space) (file : List ℕ) where
  sound : (h : Header) (i : ℕ) → segment_fault space file h i ≡ none → Sound space file h i
  unfolding segment_fault
  sound h i e =
      let p = pass (leb (h.offset + h.filesz) (length file)) _ _ e in
      let q = pass (leb h.filesz h.memsz) _ _ p.1 in
      let r = pass (leb h.memsz 65536) _ _ q.1 in
      let s = stop (outside space h) _ _ r.1 in
      let t = stop (overlaps space file h i 0) _ _ s.1 in
      record { stored = leb-true _ _ p.0; sizes = leb-true _ _ q.0; small = leb-true _ _ r.0; inside = s.0; apart = t.0 }

  -- the first fault is none: no header has one
  headers_none : (left i : ℕ) → segments_fault space file left i ≡ none → (j : ℕ) → i ≤ j → j < i + left → header_fault space file j ≡ none
  unfolding segments_fault
  headers_none zero i e j l h = absurd (omega arith)
  headers_none (suc left) i e j l h = go (headers_none left (i + 1) (or_none _ _ e).1 j) (ℕ_discrete j i)
    where
      go : (i + 1 ≤ j → j < i + 1 + left → header_fault space file j ≡ none) → Dec (j ≡ i) → header_fault space file j ≡ none
      go rest (yes d) = rw d (or_none _ _ e).0
      go rest (no n) = rest (omega arith) (omega arith)

  pub segments_none : file_fault space file ≡ none → segments_fault space file (count file) 0 ≡ none
  unfolding file_fault
  segments_none e = (or_none _ _ (or_none (table_fault file) _ (or_none (head_fault file) _ e).1).1).0

  pub segment_sound : file_fault space file ≡ none → (i : ℕ) → i < count file → loads file (header file i) ≡ true → Sound space file (header file i) i
  unfolding header_fault
  segment_sound e i l t = sound (header file i) i (simp t at (headers_none (count file) 0 (segments_none e) i (omega arith) (omega arith)))
