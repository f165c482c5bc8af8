-- What the tests of a file say in plain propositions: a segment leaves its place, it overlaps, there is one, the entry point is in one.
use Prim.Native.Nat.{ℕ, ◌+◌, ◌%◌, ◌<◌, ◌≤◌}
use mathlib.Core.Bool.{Bool, true, false}
use mathlib.Core.List.{List}
use mathlib.Core.Logic.{inl, inr}
use mathlib.Core.Path.{◌≡◌, refl}
use native.Mathlib.Omega.{arith}
use borrow.Author.Tests.{eqb-true, eq-eqb, ltb-true, ltb-false, le-leb}
use lib.Dec.{eqb, ltb}
use Rattle.elf.specs.declared.Header.{Header}
use Rattle.elf.specs.declared.Space.{Space}
use Rattle.elf.specs.declared.Space.TheVariants.{User, Kernel}
use Rattle.elf.specs.Header.{header, count, entry, loads}
use Rattle.elf.specs.Home.{physical, home, outside, outside_user, outside_kernel, covers}
use Rattle.elf.specs.Faults.{shares, overlaps_at, overlaps, any_segment, in_segment, enters}
use Rattle.elf.specs.Exact.{IsSegment, Sized, Outside, Overlaps, Enters}
use Rattle.elf.proofs.Laws.{both_true, never, covers_on}
use Rattle.elf.proofs.Search.{hits, misses}
use Rattle.elf.proofs.Standing.{on_covers, covers_loads, not_shared, apart_at, roomy}

-- a test says a proposition
pub record Reflects (b : Bool) (P : Type 0) : Type 0 where
  pub says : b ≡ true → P
  pub denies : b ≡ false → P → ⊥

pub holds : (b : Bool) {P : Type 0} → Reflects b P → P → b ≡ true
holds true r p = refl
holds false r p = absurd (r.denies refl p)

pub fails : (b : Bool) {P : Type 0} → Reflects b P → (P → ⊥) → b ≡ false
fails true r n = absurd (n (r.says refl))
fails false r n = refl

pub test : {A : Type 0} (b : Bool) {P : Type 0} → Reflects b P → (P → A) → ((P → ⊥) → A) → A
test true r f g = f (r.says refl)
test false r f g = g (r.denies refl)

-- ---- where a segment may not be

physical_high : (v : ℕ) → 0xc0000000 ≤ v → 65536 < physical v
unfolding physical
physical_high v h = let l : 0xa0000000 ≤ v = omega arith in simp (le-leb _ _ l) (omega arith)

kernel_says : (v n : ℕ) → outside_kernel v n ≡ true → Outside Kernel v n
unfolding outside_kernel
kernel_says v n e = go (ltb v 0x80000000) refl
  where
    go : (b : Bool) → ltb v 0x80000000 ≡ b → Outside Kernel v n
    go true t = inl (ltb-true _ _ t)
    go false t = inr (inr (ltb-true _ _ (simp t at e)))

kernel_denies : (v n : ℕ) → outside_kernel v n ≡ false → Outside Kernel v n → ⊥
unfolding outside_kernel
kernel_denies v n e = go (ltb v 0x80000000) refl
  where
    go : (b : Bool) → ltb v 0x80000000 ≡ b → Outside Kernel v n → ⊥
    go true t o = never true refl (simp t at e)
    go false t (inl l) = let g : 0x80000000 ≤ v = ltb-false _ _ t in omega arith
    go false t (inr (inl l)) = let g : physical v + n ≤ 65536 = ltb-false _ _ (simp t at e) in omega (arith, physical_high v l)
    go false t (inr (inr l)) = let g : physical v + n ≤ 65536 = ltb-false _ _ (simp t at e) in omega arith

pub leaves_is : (space : Space) (h : Header) → Reflects (outside space h) (Outside space h.vaddr h.memsz)
unfolding outside outside_user
leaves_is User h =
    record { says = λ e. ltb-true _ _ e; denies = λ e o. let l : h.vaddr + h.memsz ≤ 0x7ffff000 = ltb-false _ _ e in omega arith }
leaves_is Kernel h = record { says = kernel_says h.vaddr h.memsz; denies = kernel_denies h.vaddr h.memsz }

-- ---- an overlap is an address of both

module _ (space : Space) (file : List ℕ) where
  both_homes : (i j : ℕ) → j < i → overlaps_at space file (header file i) j ≡ true → 1 ≤ (header file i).memsz → (loads file (header file j) ≡ true → 1 ≤ (header file j).memsz) → Overlaps space file i
  unfolding overlaps_at shares
  both_homes i j l e m n =
      let g = header file i in
      let h = header file j in
      let p = both_true _ (loads file h) e in
      let q = both_true (ltb (home space g.vaddr) (home space h.vaddr + h.memsz)) (ltb (home space h.vaddr) (home space g.vaddr + g.memsz)) p.0 in
      let x : home space g.vaddr < home space h.vaddr + h.memsz = ltb-true _ _ q.0 in
      let y : home space h.vaddr < home space g.vaddr + g.memsz = ltb-true _ _ q.1 in
      go p.1 (n p.1) x y (ltb (home space g.vaddr) (home space h.vaddr)) refl
    where
      go : loads file (header file j) ≡ true → 1 ≤ (header file j).memsz → home space (header file i).vaddr < home space (header file j).vaddr + (header file j).memsz → home space (header file j).vaddr < home space (header file i).vaddr + (header file i).memsz → (b : Bool) → ltb (home space (header file i).vaddr) (home space (header file j).vaddr) ≡ b → Overlaps space file i
      go t r x y true c =
          let z : home space (header file i).vaddr < home space (header file j).vaddr = ltb-true _ _ c in
          record { other = j; lower = omega arith; segment = t; address = home space (header file j).vaddr; here = (omega arith, y); there = (omega arith, omega arith) }
      go t r x y false c =
          let z : home space (header file j).vaddr ≤ home space (header file i).vaddr = ltb-false _ _ c in
          record { other = j; lower = omega arith; segment = t; address = home space (header file i).vaddr; here = (omega arith, omega arith); there = (z, x) }

  pub overlaps_is : (i : ℕ) → loads file (header file i) ≡ true → Sized file i → ((j : ℕ) → j < i → loads file (header file j) ≡ true → Sized file j) → Reflects (overlaps space file (header file i) i 0) (Overlaps space file i)
  unfolding overlaps
  overlaps_is i t s lower =
      record {
        says =
            λ e.
            let r = hits (overlaps_at space file (header file i)) (overlaps space file (header file i)) (λ k. refl) (λ left k. refl) i 0 e in
            both_homes i r.place (omega arith) r.hit (roomy file (header file i) s t) (λ u. roomy file (header file r.place) (lower r.place (omega arith) u) u);
        denies =
            λ e o.
            not_shared space file o.address (header file i) o.other (apart_at space file o.address (header file i) i e o.other (omega (arith, o.lower))) (on_covers space file o.address (header file o.other) o.there o.segment) o.here;
      }

-- ---- there is a segment, and the entry point is in one

pub record Any (file : List ℕ) : Type 0 where
  pub one : ℕ
  pub segment : IsSegment file one

pub any_is : (file : List ℕ) → Reflects (any_segment file (count file) 0) (Any file)
unfolding any_segment
any_is file =
    record {
      says =
          λ e.
          let r = hits (λ (i : ℕ). loads file (header file i)) (any_segment file) (λ k. refl) (λ left k. refl) (count file) 0 e in
          record { one = r.place; segment = (omega arith, r.hit) };
      denies =
          λ e s.
          never (loads file (header file s.one)) s.segment.1 (misses (λ (i : ℕ). loads file (header file i)) (any_segment file) (λ k. refl) (λ left k. refl) (count file) 0 e s.one (omega arith) (omega (arith, s.segment.0)));
    }

enters_says : (file : List ℕ) → enters file ≡ true → Enters file
unfolding enters in_segment home
enters_says file e =
    let p = both_true (eqb (entry file % 4) 0) _ e in
    let r = hits (λ (i : ℕ). covers User file (header file i) (entry file)) (in_segment file (entry file)) (λ k. refl) (λ left k. refl) (count file) 0 p.1 in
    let c = covers_on User file (header file r.place) (entry file) r.hit in
    record {
      multiple = eqb-true _ _ p.0;
      one = r.place;
      segment = (omega arith, covers_loads User file (entry file) (header file r.place) r.hit);
      from = c.0;
      below = c.1;
    }

enters_holds : (file : List ℕ) → Enters file → enters file ≡ true
unfolding enters in_segment home
enters_holds file s =
    let c = on_covers User file (entry file) (header file s.one) (s.from, s.below) s.segment.1 in
    simp (eq-eqb _ _ s.multiple) (go c (in_segment file (entry file) (count file) 0) refl)
  where
    go : covers User file (header file s.one) (entry file) ≡ true → (b : Bool) → in_segment file (entry file) (count file) 0 ≡ b → in_segment file (entry file) (count file) 0 ≡ true
    go c true e = e
    go c false e = absurd (never _ c (misses (λ (i : ℕ). covers User file (header file i) (entry file)) (in_segment file (entry file)) (λ k. refl) (λ left k. refl) (count file) 0 e s.one (omega arith) (omega (arith, s.segment.0))))

pub enters_is : (file : List ℕ) → Reflects (enters file) (Enters file)
enters_is file = record { says = enters_says file; denies = λ e s. never (enters file) (enters_holds file s) e }
