-- Every page that was asked for is there, unless the RAM was full, and stays.
use Prim.Native.Nat.{ℕ, ◌+◌, ◌*◌, ◌/◌, ◌%◌, ◌^◌, ◌<◌, ◌≤◌}
use native.Mathlib.Omega.{arith}
use mathlib.Core.Path.{◌≡◌, refl, sym, ap, ◌∙◌, subst}
use mathlib.Core.Bool.{Bool, true, false}
use mathlib.Core.List.{List}
use Rattle.std.specs.Prelude.{Option, Some, None}
use mathlib.Core.Logic.{◌⊎◌, inl, inr}
use lib.Dec.{eqb, ltb}
use lib.ListN.{get_or, set}
use borrow.Author.Tests.{eq-eqb, eqb-true, eqb-false, ltb-true, ltb-false}
use Rattle.promise.specs.Pick.{pick}
use Rattle.tlb.specs.Slot.{dirty_of}
use Rattle.place.specs.Plan.{Plan, key, lo_of, granted, find, first_full, taken, crowded, again, add_at, add}
use Rattle.mills.proofs.Writes.{put, hi_here, hi_other, lo_here, lo_other, granted_here, granted_other}
use Rattle.mills.proofs.Planned.{Planned, At, at, used_more, same?, hi, lo}
use Rattle.mills.proofs.Ways.{lo_dirty}

-- a program has a page: a slot of its pair, and something in its half; dirty if the page is writable
pub record There (p : Plan) (a page : ℕ) (w : Bool) : Type 0 where
  pub slot : ℕ
  pub used : slot < p.used
  pub is : hi p slot ≡ key a page
  pub some : lo p slot (page % 2) ≡ 0 → ⊥
  pub dirty : w ≡ true → dirty_of (lo p slot (page % 2)) ≡ true

lo_some : (g : ℕ) (w : Bool) → lo_of g w ≡ 0 → ⊥
unfolding lo_of
lo_some g true e = omega arith
lo_some g false e = omega arith

granted_some : (y : ℕ) (w : Bool) → (y ≡ 0 → ⊥) → granted y w ≡ 0 → ⊥
unfolding granted
granted_some y true n e = omega arith
granted_some y false n e = n e

granted_dirty : (y : ℕ) (w : Bool) → w ≡ true → dirty_of (granted y w) ≡ true
unfolding granted
granted_dirty y true e = eq-eqb ((y / 8 * 8 + 6) / 2 ^ 2 % 2) 1 (omega arith)
granted_dirty y false e = let z : ◌≡◌ {A = ℕ} 0 1 = cc in absurd (omega arith)

granted_keeps : (y : ℕ) (w : Bool) → dirty_of y ≡ true → dirty_of (granted y w) ≡ true
unfolding granted
granted_keeps y true e = eq-eqb ((y / 8 * 8 + 6) / 2 ^ 2 % 2) 1 (omega arith)
granted_keeps y false e = e

module _ (may : ℕ → ℕ → Bool → Type 0) (k : ℕ) (p : Plan) (P : Planned may k p) (a page : ℕ) (w : Bool) (a-some : 1 ≤ a) (a_small : a < 256) (page_small : page < 2 ^ 19) (allowed : may a page w) where
  abbrev At' : ℕ → Type 0
  At' i = At may k p P a page w a-some a_small page_small allowed i

  half : page % 2 < 2
  half = omega arith

  -- in slot i a page of RAM is taken
  module _ (i : ℕ) (A : At' i) (left : p.next < 16) (free : lo p i (page % 2) ≡ 0) where
    there : i < 48
    there = let m = A.inside in let h = P.used_next in omega arith

    taken_keeps : (b other : ℕ) (x : Bool) → There p b other x → There (taken p a page w i) b other x
    unfolding taken
    taken_keeps b other x T =
        record {
          slot = T.slot;
          used = let m = (used_more may k p P a page w a-some a_small page_small allowed i A).least in let u = T.used in omega arith;
          is = go (same? T.slot i) ∙ T.is;
          some = λ e. T.some (sym same ∙ e);
          dirty = λ e. ap (λ (n : ℕ). dirty_of n) same ∙ T.dirty e;
        }
      where
        tlb' : List ℕ
        tlb' = put p.tlb P.slots i (page % 2) (key a page) (lo_of p.next w) there half

        go : (T.slot ≡ i) ⊎ (T.slot ≡ i → ⊥) → get_or tlb' (T.slot * 4 + 1) 0 ≡ hi p T.slot
        go (inr n) = hi_other p.tlb P.slots i (page % 2) (key a page) (lo_of p.next w) there half T.slot n
        go (inl e) =
            let u : i < p.used = subst (λ (n : ℕ). n < p.used) e T.used in
            ap (λ (n : ℕ). get_or tlb' (n * 4 + 1) 0) e
            ∙ hi_here p.tlb P.slots i (page % 2) (key a page) (lo_of p.next w) there half
            ∙ sym (A.old u)
            ∙ ap (λ (n : ℕ). hi p n) (sym e)

        differs : T.slot * 4 + 2 + other % 2 ≡ i * 4 + 2 + page % 2 → ⊥
        differs e = T.some (ap (λ (n : ℕ). get_or p.tlb n 0) e ∙ free)

        same : get_or tlb' (T.slot * 4 + 2 + other % 2) 0 ≡ lo p T.slot (other % 2)
        same = lo_other p.tlb P.slots i (page % 2) (key a page) (lo_of p.next w) there half T.slot (other % 2) (omega arith) differs

    taken_there : There (taken p a page w i) a page w
    unfolding taken
    taken_there =
        let y = lo_here p.tlb P.slots i (page % 2) (key a page) (lo_of p.next w) there half in
        record {
          slot = i;
          used = (used_more may k p P a page w a-some a_small page_small allowed i A).has;
          is = hi_here p.tlb P.slots i (page % 2) (key a page) (lo_of p.next w) there half;
          some = λ e. lo_some p.next w (sym y ∙ e);
          dirty = λ e. ap (λ (n : ℕ). dirty_of n) y ∙ lo_dirty p.next w ∙ e;
        }

  -- slot i has the page
  module _ (i : ℕ) (A : At' i) (some : lo p i (page % 2) ≡ 0 → ⊥) where
    inside : i < p.used
    inside = go (ltb i p.used) refl
      where
        go : (b : Bool) → ltb i p.used ≡ b → i < p.used
        go true e = ltb-true _ _ e
        go false e =
            let m : p.used ≤ i = ltb-false _ _ e in
            let n = A.inside in
            let s = P.used_small in
            absurd (some (P.fresh_lo i (page % 2) m (omega arith) (omega arith)))

    here : i < 48
    here = let m = inside in let s = P.used_small in omega arith

    abbrev tlb'' : List ℕ
    tlb'' = set p.tlb (i * 4 + 2 + page % 2) (granted (lo p i (page % 2)) w)

    hi_stays : (j : ℕ) → get_or tlb'' (j * 4 + 1) 0 ≡ hi p j
    hi_stays j =
        let n : j * 4 + 1 ≡ i * 4 + 2 + page % 2 → ⊥ = λ e. absurd (omega arith) in
        granted_other p.tlb P.slots i (page % 2) 0 (granted (lo p i (page % 2)) w) here half (j * 4 + 1) n

    lo_is : get_or tlb'' (i * 4 + 2 + page % 2) 0 ≡ granted (lo p i (page % 2)) w
    lo_is = granted_here p.tlb P.slots i (page % 2) 0 (granted (lo p i (page % 2)) w) here half

    again_keeps : (b other : ℕ) (x : Bool) → There p b other x → There (again p page w i) b other x
    unfolding again
    again_keeps b other x T = go (same? (T.slot * 4 + 2 + other % 2) (i * 4 + 2 + page % 2))
      where
        go : (T.slot * 4 + 2 + other % 2 ≡ i * 4 + 2 + page % 2) ⊎ (T.slot * 4 + 2 + other % 2 ≡ i * 4 + 2 + page % 2 → ⊥) → There (again p page w i) b other x
        go (inl e) =
            let y : get_or tlb'' (T.slot * 4 + 2 + other % 2) 0 ≡ granted (lo p i (page % 2)) w = ap (λ (n : ℕ). get_or tlb'' n 0) e ∙ lo_is in
            let old : lo p T.slot (other % 2) ≡ lo p i (page % 2) = ap (λ (n : ℕ). get_or p.tlb n 0) e in
            record {
              slot = T.slot;
              used = T.used;
              is = hi_stays T.slot ∙ T.is;
              some = λ z. granted_some (lo p i (page % 2)) w some (sym y ∙ z);
              dirty = λ t. ap (λ (n : ℕ). dirty_of n) y ∙ granted_keeps (lo p i (page % 2)) w (sym (ap (λ (n : ℕ). dirty_of n) old) ∙ T.dirty t);
            }
        go (inr n) =
            let y : get_or tlb'' (T.slot * 4 + 2 + other % 2) 0 ≡ lo p T.slot (other % 2) = granted_other p.tlb P.slots i (page % 2) 0 (granted (lo p i (page % 2)) w) here half (T.slot * 4 + 2 + other % 2) n in
            record {
              slot = T.slot;
              used = T.used;
              is = hi_stays T.slot ∙ T.is;
              some = λ z. T.some (sym y ∙ z);
              dirty = λ t. ap (λ (n : ℕ). dirty_of n) y ∙ T.dirty t;
            }

    again_there : There (again p page w i) a page w
    unfolding again
    again_there =
        record {
          slot = i;
          used = inside;
          is = hi_stays i ∙ A.old inside;
          some = λ z. granted_some (lo p i (page % 2)) w some (sym lo_is ∙ z);
          dirty = λ t. ap (λ (n : ℕ). dirty_of n) lo_is ∙ granted_dirty (lo p i (page % 2)) w t;
        }

  crowded_keeps : (b other : ℕ) (x : Bool) → There p b other x → There (crowded p a) b other x
  unfolding crowded
  crowded_keeps b other x T = record { slot = T.slot; used = T.used; is = T.is; some = T.some; dirty = T.dirty }

  -- once the RAM is full, it stays so
  full_stays : (full : Option ℕ) → first_full full a ≡ None → ⊥
  full_stays None e = cc
  full_stays (Some k) e = cc

  full_taken : (i : ℕ) → (taken p a page w i).full ≡ None → p.full ≡ None
  unfolding taken
  full_taken i e = e

  full_again : (i : ℕ) → (again p page w i).full ≡ None → p.full ≡ None
  unfolding again
  full_again i e = e

  full_crowded : (crowded p a).full ≡ None → ⊥
  unfolding crowded
  full_crowded e = full_stays p.full e

  -- what a page more leaves of all this
  pub record Added (q : Plan) : Type 0 where
    pub keeps : (b other : ℕ) (x : Bool) → There p b other x → There q b other x
    pub makes : q.full ≡ None → There q a page w
    pub before : q.full ≡ None → p.full ≡ None

  pub added : Added (add p a page w)
  unfolding add add_at
  added = go (eqb (lo p i (page % 2)) 0) refl
    where
      i : ℕ
      i = find p.tlb (key a page) p.used 0

      A : At' i
      A = at may k p P a page w a-some a_small page_small allowed

      by_taken : p.next < 16 → lo p i (page % 2) ≡ 0 → Added (taken p a page w i)
      by_taken left z = record { keeps = taken_keeps i A left z; makes = λ e. taken_there i A left z; before = λ e. full_taken i e }

      by_crowded : Added (crowded p a)
      by_crowded = record { keeps = crowded_keeps; makes = λ e. absurd (full_crowded e); before = λ e. absurd (full_crowded e) }

      by_again : (lo p i (page % 2) ≡ 0 → ⊥) → Added (again p page w i)
      by_again n = record { keeps = again_keeps i A n; makes = λ e. again_there i A n; before = λ e. full_again i e }

      left : (b : Bool) → ltb p.next 16 ≡ b → lo p i (page % 2) ≡ 0 → Added (pick b (taken p a page w i) (crowded p a))
      left true e z = by_taken (ltb-true _ _ e) z
      left false e z = by_crowded

      go : (b : Bool) → eqb (lo p i (page % 2)) 0 ≡ b → Added (pick b (pick (ltb p.next 16) (taken p a page w i) (crowded p a)) (again p page w i))
      go true e = left (ltb p.next 16) refl (eqb-true _ _ e)
      go false e = by_again (eqb-false _ _ e)
