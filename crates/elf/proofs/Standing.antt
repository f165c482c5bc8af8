-- What stands at an address of a segment is that segment's own byte, since no two overlap (L18); and each segment is inside and has room (L14).
use Prim.Native.Nat.{ℕ, zero, suc, ◌+◌, ◌<◌, ◌≤◌}
use mathlib.Core.Bool.{Bool, true, false}
use mathlib.Core.List.{List}
use mathlib.Core.Path.{◌≡◌, refl}
use native.Mathlib.Decide.{ℕ_discrete}
use native.Mathlib.Omega.{arith}
use borrow.Author.Tests.{ltb-true, ltb-false, leb-false, lt-ltb, le-leb}
use lib.Dec.{eqb, leb, ltb}
use Rattle.promise.specs.Pick.{pick, both, not}
use Rattle.elf.specs.declared.Header.{Header}
use Rattle.elf.specs.declared.Space.{Space}
use Rattle.elf.specs.declared.Space.TheVariants.{User, Kernel}
use Rattle.elf.specs.Header.{header, count, loads, note, raised, reach_from, only_notes, end}
use Rattle.elf.specs.Home.{physical, home, outside, outside_user, outside_kernel, within, covers, byte_of, stands_from, stands}
use Rattle.elf.specs.Faults.{shares, overlaps_at, overlaps, none, file_fault}
use Rattle.elf.proofs.Laws.{both_true, never, covers_on}
use Rattle.elf.proofs.Search.{misses}
use Rattle.elf.proofs.Sound.{Sound, segment_sound}

module _ (space : Space) (file : List ℕ) (a : ℕ) where
  -- address a is one of the home of a header
  abbrev On : Header → Type 0
  On h = (home space h.vaddr ≤ a) × (a < home space h.vaddr + h.memsz)

  pub covers_loads : (h : Header) → covers space file h a ≡ true → loads file h ≡ true
  unfolding covers
  covers_loads h e = (both_true (within (home space h.vaddr) h.memsz a) _ e).1

  pub on_covers : (h : Header) → On h → loads file h ≡ true → covers space file h a ≡ true
  unfolding covers within
  on_covers h o t = simp (le-leb _ _ o.0, lt-ltb _ _ o.1, t)

  -- two segments that do not overlap do not share the address
  pub not_shared : (g : Header) (j : ℕ) → overlaps_at space file g j ≡ false → covers space file (header file j) a ≡ true → On g → ⊥
  unfolding overlaps_at shares
  not_shared g j e t o =
      let h = header file j in
      let p = covers_on space file h a t in
      let x : home space g.vaddr < home space h.vaddr + h.memsz = omega arith in
      let y : home space h.vaddr < home space g.vaddr + g.memsz = omega arith in
      never (overlaps_at space file g j) (simp (lt-ltb _ _ x, lt-ltb _ _ y, covers_loads h t)) e

  pub apart_at : (g : Header) (i : ℕ) → overlaps space file g i 0 ≡ false → (j : ℕ) → j < i → overlaps_at space file g j ≡ false
  unfolding overlaps
  apart_at g i e j l = misses (overlaps_at space file g) (overlaps space file g) (λ k. refl) (λ left k. refl) i 0 e j (omega arith) (omega arith)

  module _ (i : ℕ) (t : loads file (header file i) ≡ true) (o : On (header file i)) (s : Sound space file (header file i) i) where
    -- from a header at or below i on, header i is the first that covers the address
    stands_at : (left k : ℕ) → k ≤ i → i < k + left → stands_from space file a left k ≡ byte_of file (header file i) (home space (header file i).vaddr) a
    unfolding stands_from
    stands_at zero k l u = absurd (omega arith)
    stands_at (suc left) k l u = go (stands_at left (k + 1)) (ℕ_discrete k i) (covers space file (header file k) a) refl
      where
        go : (k + 1 ≤ i → i < k + 1 + left → stands_from space file a left (k + 1) ≡ byte_of file (header file i) (home space (header file i).vaddr) a) → Dec (k ≡ i) → (b : Bool) → covers space file (header file k) a ≡ b → stands_from space file a (suc left) k ≡ byte_of file (header file i) (home space (header file i).vaddr) a
        go rest (yes d) b e = rw (d, on_covers (header file i) o t)
        go rest (no n) true e = absurd (not_shared (header file i) k (apart_at (header file i) i s.apart k (omega arith)) e o)
        go rest (no n) false e = simp e (rest (omega arith) (omega arith))

  none_at : (left k : ℕ) → ((i : ℕ) → k ≤ i → i < k + left → loads file (header file i) ≡ true → On (header file i) → ⊥) → stands_from space file a left k ≡ 0
  unfolding stands_from
  none_at zero k no_one = refl
  none_at (suc left) k no_one = go (none_at left (k + 1) (λ i l u. no_one i (omega arith) (omega arith))) (covers space file (header file k) a) refl
    where
      go : stands_from space file a left (k + 1) ≡ 0 → (b : Bool) → covers space file (header file k) a ≡ b → stands_from space file a (suc left) k ≡ 0
      go rest true e = absurd (no_one k (omega arith) (omega arith) (covers_loads (header file k) e) (covers_on space file (header file k) a e))
      go rest false e = simp e rest

-- at each address of a segment stands that segment's byte (L18)
pub segment_stands : (space : Space) (file : List ℕ) → file_fault space file ≡ none → (i : ℕ) → i < count file → loads file (header file i) ≡ true → (a : ℕ) → home space (header file i).vaddr ≤ a → a < home space (header file i).vaddr + (header file i).memsz → stands space file a ≡ byte_of file (header file i) (home space (header file i).vaddr) a
unfolding stands
segment_stands space file e i l t a p q = stands_at space file a i t (p, q) (segment_sound space file e i l t) (count file) 0 (omega arith) (omega arith)

-- at an address of no segment stands 0 (L18)
pub nothing_stands : (space : Space) (file : List ℕ) (a : ℕ) → ((i : ℕ) → i < count file → loads file (header file i) ≡ true → home space (header file i).vaddr ≤ a → a < home space (header file i).vaddr + (header file i).memsz → ⊥) → stands space file a ≡ 0
unfolding stands
nothing_stands space file a no_one = none_at space file a (count file) 0 (λ i l u t o. no_one i (omega arith) t o.0 o.1)

-- a User program's segment ends below the stack's page (L14)
pub inside_user : (file : List ℕ) → file_fault User file ≡ none → (i : ℕ) → i < count file → loads file (header file i) ≡ true → (header file i).vaddr + (header file i).memsz ≤ 0x7ffff000
unfolding outside outside_user
inside_user file e i l t = ltb-false _ _ (segment_sound User file e i l t).inside

-- a kernel's segment is at unmapped addresses, and its home is in the RAM (L14)
pub inside_kernel : (file : List ℕ) → file_fault Kernel file ≡ none → (i : ℕ) → i < count file → loads file (header file i) ≡ true → (0x80000000 ≤ (header file i).vaddr) × (physical (header file i).vaddr + (header file i).memsz ≤ 65536)
unfolding outside outside_kernel
inside_kernel file e i l t =
    let p = neither (ltb (header file i).vaddr 0x80000000) _ (segment_sound Kernel file e i l t).inside in
    (ltb-false _ _ p.0, ltb-false _ _ p.1)
  where
    neither : (a b : Bool) → pick a true b ≡ false → (a ≡ false) × (b ≡ false)
    neither true b e = absurd (never true refl e)
    neither false b e = (refl, e)

-- notes reach no less far than where they began
raised_up : (h : Header) (far : ℕ) → far ≤ raised h far
unfolding raised
raised_up h far = go (both (note h.kind) (both (leb h.vaddr far) (ltb far (end h)))) refl
  where
    go : (b : Bool) → both (note h.kind) (both (leb h.vaddr far) (ltb far (end h))) ≡ b → far ≤ pick b (end h) far
    go true e = let l : far < end h = ltb-true _ _ (both_true (leb h.vaddr far) _ (both_true (note h.kind) _ e).1).1 in omega arith
    go false e = omega arith

reach_up : (file : List ℕ) (left i far : ℕ) → far ≤ reach_from file left i far
unfolding reach_from
reach_up file zero i far = omega arith
reach_up file (suc left) i far = omega (arith, raised_up (header file i) far, reach_up file left (i + 1) (raised (header file i) far))

-- a segment that has no more bytes in the file than in memory has an address: else it would be only notes (L12)
pub roomy : (file : List ℕ) (h : Header) → h.filesz ≤ h.memsz → loads file h ≡ true → 1 ≤ h.memsz
unfolding loads only_notes
roomy file h l t =
    let far : reach_from file (count file) 0 h.vaddr < h.vaddr + h.memsz = beyond (leb h.filesz h.memsz) _ _ (both_true (eqb h.kind 1) _ t).1 (le-leb _ _ l) in
    omega (arith, reach_up file (count file) 0 h.vaddr)
  where
    beyond : (a : Bool) (x y : ℕ) → not (both a (leb x y)) ≡ true → a ≡ true → y < x
    beyond a x y n p = leb-false x y (go (leb x y) refl)
      where
        go : (b : Bool) → leb x y ≡ b → leb x y ≡ false
        go true q = absurd (never false (simp (p, q) at n) refl)
        go false q = q

pub room : (space : Space) (file : List ℕ) → file_fault space file ≡ none → (i : ℕ) → i < count file → loads file (header file i) ≡ true → 1 ≤ (header file i).memsz
room space file e i l t = roomy file (header file i) (segment_sound space file e i l t).sizes t
