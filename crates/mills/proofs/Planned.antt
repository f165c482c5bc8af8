-- What a plan is, whatever pages were asked for: each half of a slot has a page of RAM of its own, after the kernel's, and no two slots are for the same pages.
use Prim.Native.Nat.{ℕ, zero, suc, ◌+◌, ◌*◌, ◌/◌, ◌%◌, ◌^◌, ◌<◌, ◌≤◌}
use native.Mathlib.Omega.{arith}
use mathlib.Core.Path.{◌≡◌, refl, sym, ap, ◌∙◌, subst}
use mathlib.Core.Bool.{Bool, true, false}
use mathlib.Core.List.{List}
use mathlib.Core.Logic.{◌⊎◌, inl, inr}
use lib.Dec.{eqb, ltb}
use lib.ListN.{length, length-set, get_or, set}
use lib.Seq.{get_or-set_same, get_or-set_other}
use borrow.Author.Tests.{eqb-true, eqb-false, ltb-true, ltb-false}
use Rattle.promise.specs.Pick.{pick}
use Rattle.mills.proofs.Writes.{put, hi_here, hi_other, lo_here, lo_other, mask_same, granted_here, granted_other}
use Rattle.std.specs.Prelude.{Option, Some, None}
use Rattle.place.specs.declared.Owner.{Owner}
use Rattle.place.specs.Plan.{Plan, key, owner, lo_of, granted, find, more, taken, crowded, again, add_at, add}

-- EntryHi of slot i, EntryLo of its half h, and whose page g of RAM is
abbrev pub hi : Plan → ℕ → ℕ
hi p i = get_or p.tlb (i * 4 + 1) 0

abbrev pub lo : Plan → ℕ → ℕ → ℕ
lo p i h = get_or p.tlb (i * 4 + 2 + h) 0

-- EntryHi of an ASID from 1 to 255 and of a pair of User pages
pub record Keyed (x : ℕ) : Type 0 where
  pub pair : ℕ
  pub asid : ℕ
  pub is : x ≡ pair * 8192 + asid
  pub pair_small : pair < 2 ^ 18
  pub asid_some : 1 ≤ asid
  pub asid_small : asid < 256

-- the half h of a slot, with EntryHi x and EntryLo y, has a page of RAM from k up to `next`, which is its own; `may` says that its ASID may have that page so, writable or not
pub record Has (may : ℕ → ℕ → Bool → Type 0) (k next : ℕ) (pages : List (Option Owner)) (x y h : ℕ) : Type 0 where
  pub frame : ℕ
  pub writable : Bool
  pub is : y ≡ lo_of frame writable
  pub from : k ≤ frame
  pub below : frame < next
  pub small : frame < 16
  pub owned : get_or pages frame None ≡ Some (owner (x % 8192) (x / 8192 * 2 + h))
  pub allowed : may (x % 8192) (x / 8192 * 2 + h) writable

-- nothing, or a page
abbrev pub Half : (ℕ → ℕ → Bool → Type 0) → ℕ → ℕ → List (Option Owner) → ℕ → ℕ → ℕ → Type 0
Half may k next pages x y h = (y ≡ 0) ⊎ Has may k next pages x y h

-- a plan that begins after page k of RAM
pub record Planned (may : ℕ → ℕ → Bool → Type 0) (k : ℕ) (p : Plan) : Type 0 where
  pub used_small : p.used ≤ 16
  pub used_next : p.used ≤ p.next
  pub after : k ≤ p.next
  pub low : (g : ℕ) → g < k → get_or p.pages g None ≡ None
  pub slots : length p.tlb ≡ 192
  pub pages : length p.pages ≡ 16
  pub masks : (i : ℕ) → i < 48 → get_or p.tlb (i * 4) 0 ≡ 0
  pub fresh_hi : (i : ℕ) → p.used ≤ i → i < 48 → hi p i ≡ 0x80000000 + i * 0x2000
  pub fresh_lo : (i h : ℕ) → p.used ≤ i → i < 48 → h < 2 → lo p i h ≡ 0
  pub keyed : (i : ℕ) → i < p.used → Keyed (hi p i)
  pub apart : (i j : ℕ) → i < p.used → j < p.used → hi p i ≡ hi p j → i ≡ j
  pub halves : (i h : ℕ) → i < p.used → h < 2 → Half may k p.next p.pages (hi p i) (lo p i h) h

-- what a search for a slot finds: the slot of this EntryHi, or that there is none among those used
pub data Finds (tlb : List ℕ) (want used : ℕ) : ℕ → Type 0 where
  there : (r : ℕ) → r < used → get_or tlb (r * 4 + 1) 0 ≡ want → Finds tlb want used r
  none : ((j : ℕ) → j < used → get_or tlb (j * 4 + 1) 0 ≡ want → ⊥) → Finds tlb want used used

finds : (tlb : List ℕ) (want used left i : ℕ) → i + left ≡ used → ((j : ℕ) → j < i → get_or tlb (j * 4 + 1) 0 ≡ want → ⊥) → Finds tlb want used (find tlb want left i)
unfolding find
finds tlb want used zero i e none_yet =
    let z : i ≡ used = omega arith in
    subst (λ (n : ℕ). Finds tlb want used n) (sym z) (none (subst (λ (n : ℕ). (j : ℕ) → j < n → get_or tlb (j * 4 + 1) 0 ≡ want → ⊥) z none_yet))
finds tlb want used (suc left) i e none_yet = go (λ n. finds tlb want used left (i + 1) (omega arith) n) (eqb (get_or tlb (i * 4 + 1) 0) want) refl
  where
    more_none : (get_or tlb (i * 4 + 1) 0 ≡ want → ⊥) → (j : ℕ) → j < i + 1 → get_or tlb (j * 4 + 1) 0 ≡ want → ⊥
    more_none t j h s = split (eqb j i) refl
      where
        split : (b : Bool) → eqb j i ≡ b → ⊥
        split true u = t (subst (λ (n : ℕ). get_or tlb (n * 4 + 1) 0 ≡ want) (eqb-true _ _ u) s)
        split false u = let n : j ≡ i → ⊥ = eqb-false _ _ u in none_yet j (omega arith) s

    go : (((j : ℕ) → j < i + 1 → get_or tlb (j * 4 + 1) 0 ≡ want → ⊥) → Finds tlb want used (find tlb want left (i + 1))) → (b : Bool) → eqb (get_or tlb (i * 4 + 1) 0) want ≡ b → Finds tlb want used (pick b i (find tlb want left (i + 1)))
    go rest true t = there i (omega arith) (eqb-true _ _ t)
    go rest false t = rest (more_none (eqb-false _ _ t))

pub found : (tlb : List ℕ) (want used : ℕ) → Finds tlb want used (find tlb want used 0)
found tlb want used = finds tlb want used used 0 (omega arith) (λ j h s. absurd (omega arith))

-- another page of RAM is taken, and this half's stays
kept : {may : ℕ → ℕ → Bool → Type 0} {k next : ℕ} {pages : List (Option Owner)} {x y h : ℕ} (v : Option Owner) → Half may k next pages x y h → Half may k (next + 1) (set pages next v) x y h
kept v (inl e) = inl e
kept {may} {k} {next} {pages} {x} {y} {h} v (inr s) =
    let n : s.frame ≡ next → ⊥ = λ e. absurd (omega arith) in
    inr
    (record {
      frame = s.frame;
      writable = s.writable;
      is = s.is;
      from = s.from;
      below = omega arith;
      small = s.small;
      owned = get_or-set_other pages next s.frame v None n ∙ s.owned;
      allowed = s.allowed;
    })

-- a test whether two numbers are equal
pub same? : (i j : ℕ) → (i ≡ j) ⊎ (i ≡ j → ⊥)
same? i j = go (eqb i j) refl
  where
    go : (b : Bool) → eqb i j ≡ b → (i ≡ j) ⊎ (i ≡ j → ⊥)
    go true e = inl (eqb-true _ _ e)
    go false e = inr (eqb-false _ _ e)

-- D is set of a page of RAM
granted_true : (y g : ℕ) (b : Bool) → y ≡ lo_of g b → granted y true ≡ lo_of g true
unfolding granted lo_of
granted_true y g true e = omega arith
granted_true y g false e = omega arith

-- a page is wanted for page `page` of ASID a
module _ (may : ℕ → ℕ → Bool → Type 0) (k : ℕ) (p : Plan) (P : Planned may k p) (a page : ℕ) (w : Bool) (a-some : 1 ≤ a) (a_small : a < 256) (page_small : page < 2 ^ 19) (allowed : may a page w) where
  -- slot i is the pair's, or the first that is free
  pub record At (i : ℕ) : Type 0 where
    pub inside : i ≤ p.used
    pub alone : (j : ℕ) → j < p.used → hi p j ≡ key a page → j ≡ i
    pub old : i < p.used → hi p i ≡ key a page

  pub at : At (find p.tlb (key a page) p.used 0)
  at = go (found p.tlb (key a page) p.used)
    where
      go : {r : ℕ} → Finds p.tlb (key a page) p.used r → At r
      go (there r h e) = record { inside = omega arith; alone = λ j g s. P.apart j r g h (s ∙ sym e); old = λ g. e }
      go (none n) = record { inside = omega arith; alone = λ j g s. absurd (n j g s); old = λ g. absurd (omega arith) }

  -- what `key` tells
  key_keyed : Keyed (key a page)
  key_keyed = record { pair = page / 2; asid = a; is = refl; pair_small = omega arith; asid_some = a-some; asid_small = a_small }

  -- the slots used once slot i is: i is one, and all that were
  pub record More (i n : ℕ) : Type 0 where
    pub has : i < n
    pub least : p.used ≤ n
    pub most : n ≤ p.used + 1
    pub one : (j : ℕ) → j < n → (j ≡ i → ⊥) → j < p.used

  pub used_more : (i : ℕ) → At i → More i (more p.used i)
  unfolding more
  used_more i A = go (eqb i p.used) refl
    where
      go : (b : Bool) → eqb i p.used ≡ b → More i (pick b (i + 1) p.used)
      go true e = let z : i ≡ p.used = eqb-true _ _ e in record { has = omega arith; least = omega arith; most = omega arith; one = λ j h n. omega arith }
      go false e = let z : i ≡ p.used → ⊥ = eqb-false _ _ e in let s = A.inside in record { has = omega arith; least = omega arith; most = omega arith; one = λ j h n. h }

  taken_planned : (i : ℕ) → At i → p.next < 16 → lo p i (page % 2) ≡ 0 → Planned may k (taken p a page w i)
  unfolding taken
  taken_planned i A left free =
      record {
        used_small = small;
        used_next = as_many;
        after = omega arith;
        low = λ g h. let n : g ≡ p.next → ⊥ = λ e. absurd (below g h e) in get_or-set_other p.pages p.next g (Some (owner a page)) None n ∙ P.low g h;
        slots = simp length-set P.slots;
        pages = simp length-set P.pages;
        masks = λ j h. mask_same p.tlb P.slots i (page % 2) (key a page) (lo_of p.next w) there half j ∙ P.masks j h;
        fresh_hi = λ j g h. new_hi j g h;
        fresh_lo = λ j h g m t. new_lo j h g m t;
        keyed = new_keyed;
        apart = new_apart;
        halves = new_halves;
      }
    where
      M : More i (more p.used i)
      M = used_more i A

      inside : i ≤ p.used
      inside = A.inside

      used_16 : p.used ≤ 15
      used_16 = let a = P.used_next in omega arith

      below : (g : ℕ) → g < k → g ≡ p.next → ⊥
      below g h e = let r = P.after in omega arith

      small : more p.used i ≤ 16
      small = let m = M.most in let h = used_16 in omega arith

      as_many : more p.used i ≤ p.next + 1
      as_many = let m = M.most in let h = P.used_next in omega arith

      there : i < 48
      there = let h = used_16 in let n = inside in omega arith

      half : page % 2 < 2
      half = omega arith

      tlb' : List ℕ
      tlb' = put p.tlb P.slots i (page % 2) (key a page) (lo_of p.next w) there half

      here : get_or tlb' (i * 4 + 1) 0 ≡ key a page
      here = hi_here p.tlb P.slots i (page % 2) (key a page) (lo_of p.next w) there half

      hi_same : (j : ℕ) → (j ≡ i → ⊥) → get_or tlb' (j * 4 + 1) 0 ≡ hi p j
      hi_same j n = hi_other p.tlb P.slots i (page % 2) (key a page) (lo_of p.next w) there half j n

      lo_same : (j h : ℕ) → h < 2 → (j * 4 + 2 + h ≡ i * 4 + 2 + page % 2 → ⊥) → get_or tlb' (j * 4 + 2 + h) 0 ≡ lo p j h
      lo_same j h g n = lo_other p.tlb P.slots i (page % 2) (key a page) (lo_of p.next w) there half j h g n

      new_hi : (j : ℕ) → more p.used i ≤ j → j < 48 → get_or tlb' (j * 4 + 1) 0 ≡ 0x80000000 + j * 0x2000
      new_hi j g h =
          let m = M.has in
          let l = M.least in
          let n : j ≡ i → ⊥ = λ e. absurd (omega arith) in
          hi_same j n ∙ P.fresh_hi j (omega arith) h

      new_lo : (j h : ℕ) → more p.used i ≤ j → j < 48 → h < 2 → get_or tlb' (j * 4 + 2 + h) 0 ≡ 0
      new_lo j h g m t =
          let s = M.has in
          let l = M.least in
          let n : j * 4 + 2 + h ≡ i * 4 + 2 + page % 2 → ⊥ = λ e. absurd (omega arith) in
          lo_same j h t n ∙ P.fresh_lo j h (omega arith) m t

      new_keyed : (j : ℕ) → j < more p.used i → Keyed (get_or tlb' (j * 4 + 1) 0)
      new_keyed j h = go (same? j i)
        where
          go : (j ≡ i) ⊎ (j ≡ i → ⊥) → Keyed (get_or tlb' (j * 4 + 1) 0)
          go (inl e) = subst (λ (x : ℕ). Keyed x) (sym (ap (λ (x : ℕ). get_or tlb' (x * 4 + 1) 0) e ∙ here)) key_keyed
          go (inr n) = subst (λ (x : ℕ). Keyed x) (sym (hi_same j n)) (P.keyed j (M.one j h n))

      new_apart : (j m : ℕ) → j < more p.used i → m < more p.used i → get_or tlb' (j * 4 + 1) 0 ≡ get_or tlb' (m * 4 + 1) 0 → j ≡ m
      new_apart j m g h e = go (same? j i) (same? m i)
        where
          at_i : (n : ℕ) → n ≡ i → get_or tlb' (n * 4 + 1) 0 ≡ key a page
          at_i n s = ap (λ (x : ℕ). get_or tlb' (x * 4 + 1) 0) s ∙ here

          go : (j ≡ i) ⊎ (j ≡ i → ⊥) → (m ≡ i) ⊎ (m ≡ i → ⊥) → j ≡ m
          go (inl s) (inl t) = s ∙ sym t
          go (inl s) (inr t) = absurd (t (A.alone m (M.one m h t) (sym (hi_same m t) ∙ sym e ∙ at_i j s)))
          go (inr s) (inl t) = absurd (s (A.alone j (M.one j g s) (sym (hi_same j s) ∙ e ∙ at_i m t)))
          go (inr s) (inr t) = P.apart j m (M.one j g s) (M.one m h t) (sym (hi_same j s) ∙ e ∙ hi_same m t)

      -- the half that was taken
      fresh_half : Has may k (p.next + 1) (set p.pages p.next (Some (owner a page))) (key a page) (lo_of p.next w) (page % 2)
      fresh_half =
          let n : key a page / 8192 * 2 + page % 2 ≡ page = omega arith in
          let b : key a page % 8192 ≡ a = omega arith in
          let r = P.after in
          let s = P.pages in
          record {
            frame = p.next;
            writable = w;
            is = refl;
            from = r;
            below = omega arith;
            small = left;
            owned = get_or-set_same p.pages p.next (Some (owner a page)) None (omega arith) ∙ sym (rw (n, b) refl);
            allowed = rw (n, b) allowed;
          }

      Has' : ℕ → ℕ → ℕ → Type 0
      Has' x z h = Half may k (p.next + 1) (set p.pages p.next (Some (owner a page))) x z h

      -- a half that was there, or was free
      old_half : (j h : ℕ) → j < more p.used i → h < 2 → (j ≡ i) ⊎ (j ≡ i → ⊥) → Has' (get_or tlb' (j * 4 + 1) 0) (lo p j h) h
      old_half j h g t (inr n) = subst (λ (x : ℕ). Has' x (lo p j h) h) (sym (hi_same j n)) (kept (Some (owner a page)) (P.halves j h (M.one j g n) t))
      old_half j h g t (inl e) = go (ltb i p.used) refl
        where
          go : (b : Bool) → ltb i p.used ≡ b → Has' (get_or tlb' (j * 4 + 1) 0) (lo p j h) h
          go true l =
              let m : j < p.used = subst (λ (x : ℕ). x < p.used) (sym e) (ltb-true _ _ l) in
              let s : get_or tlb' (j * 4 + 1) 0 ≡ hi p j = ap (λ (x : ℕ). get_or tlb' (x * 4 + 1) 0) e ∙ here ∙ sym (ap (λ (x : ℕ). hi p x) e ∙ A.old (ltb-true _ _ l)) in
              subst (λ (x : ℕ). Has' x (lo p j h) h) (sym s) (kept (Some (owner a page)) (P.halves j h m t))
          go false l =
              let m : p.used ≤ i = ltb-false _ _ l in
              let n = there in
              inl (P.fresh_lo j h (omega arith) (omega arith) t)

      new_halves : (j h : ℕ) → j < more p.used i → h < 2 → Has' (get_or tlb' (j * 4 + 1) 0) (get_or tlb' (j * 4 + 2 + h) 0) h
      new_halves j h g t = go (same? (j * 4 + 2 + h) (i * 4 + 2 + page % 2))
        where
          go : (j * 4 + 2 + h ≡ i * 4 + 2 + page % 2) ⊎ (j * 4 + 2 + h ≡ i * 4 + 2 + page % 2 → ⊥) → Has' (get_or tlb' (j * 4 + 1) 0) (get_or tlb' (j * 4 + 2 + h) 0) h
          go (inr n) = subst (λ (x : ℕ). Has' (get_or tlb' (j * 4 + 1) 0) x h) (sym (lo_same j h t n)) (old_half j h g t (same? j i))
          go (inl e) =
              let ji : j ≡ i = omega arith in
              let hp : h ≡ page % 2 = omega arith in
              let y : get_or tlb' (j * 4 + 2 + h) 0 ≡ lo_of p.next w = ap (λ (x : ℕ). get_or tlb' x 0) e ∙ lo_here p.tlb P.slots i (page % 2) (key a page) (lo_of p.next w) there half in
              let x : get_or tlb' (j * 4 + 1) 0 ≡ key a page = ap (λ (x : ℕ). get_or tlb' (x * 4 + 1) 0) ji ∙ here in
              rw (x, y, hp) (inr fresh_half)

  -- a page that the program has, and is writable if it now is
  again_planned : (i : ℕ) → At i → (lo p i (page % 2) ≡ 0 → ⊥) → Planned may k (again p page w i)
  unfolding again granted
  again_planned i A some =
      record {
        used_small = P.used_small;
        used_next = P.used_next;
        after = P.after;
        low = P.low;
        slots = simp length-set P.slots;
        pages = P.pages;
        masks = λ j h. same (j * 4) (λ e. absurd (omega arith)) ∙ P.masks j h;
        fresh_hi = λ j g h. hi_same j ∙ P.fresh_hi j g h;
        fresh_lo = new_lo;
        keyed = λ j h. subst (λ (x : ℕ). Keyed x) (sym (hi_same j)) (P.keyed j h);
        apart = λ j m g h e. P.apart j m g h (sym (hi_same j) ∙ e ∙ hi_same m);
        halves = new_halves;
      }
    where
      small : p.used ≤ 16
      small = P.used_small

      inside : i < p.used
      inside = go (ltb i p.used) refl
        where
          go : (b : Bool) → ltb i p.used ≡ b → i < p.used
          go true e = ltb-true _ _ e
          go false e = let m : p.used ≤ i = ltb-false _ _ e in let n = A.inside in absurd (some (P.fresh_lo i (page % 2) m (omega arith) (omega arith)))

      there : i < 48
      there = let n = inside in let s = small in omega arith

      tlb' : List ℕ
      tlb' = set p.tlb (i * 4 + 2 + page % 2) (granted (lo p i (page % 2)) w)

      same : (n : ℕ) → (n ≡ i * 4 + 2 + page % 2 → ⊥) → get_or tlb' n 0 ≡ get_or p.tlb n 0
      same n e = granted_other p.tlb P.slots i (page % 2) 0 (granted (lo p i (page % 2)) w) there (omega arith) n e

      hi_same : (j : ℕ) → get_or tlb' (j * 4 + 1) 0 ≡ hi p j
      hi_same j = same (j * 4 + 1) (λ e. absurd (omega arith))

      new_lo : (j h : ℕ) → p.used ≤ j → j < 48 → h < 2 → get_or tlb' (j * 4 + 2 + h) 0 ≡ 0
      new_lo j h g m t =
          let n = inside in
          let d : j * 4 + 2 + h ≡ i * 4 + 2 + page % 2 → ⊥ = λ e. absurd (omega arith) in
          same (j * 4 + 2 + h) d ∙ P.fresh_lo j h g m t

      -- the half, writable as well if the page is
      raised : Half may k p.next p.pages (hi p i) (lo p i (page % 2)) (page % 2) → Half may k p.next p.pages (hi p i) (granted (lo p i (page % 2)) w) (page % 2)
      raised (inl e) = absurd (some e)
      raised (inr s) = go w refl
        where
          key_is : hi p i ≡ key a page
          key_is = A.old inside

          go : (b : Bool) → w ≡ b → Half may k p.next p.pages (hi p i) (granted (lo p i (page % 2)) b) (page % 2)
          go false e = inr s
          go true e =
              let n : hi p i / 8192 * 2 + page % 2 ≡ page = let z = key_is in omega arith in
              let b : hi p i % 8192 ≡ a = let z = key_is in omega arith in
              inr
              (record {
                frame = s.frame;
                writable = true;
                is = granted_true (lo p i (page % 2)) s.frame s.writable s.is;
                from = s.from;
                below = s.below;
                small = s.small;
                owned = s.owned;
                allowed = rw (n, b) (subst (λ (x : Bool). may a page x) e allowed);
              })

      new_halves : (j h : ℕ) → j < p.used → h < 2 → Half may k p.next p.pages (get_or tlb' (j * 4 + 1) 0) (get_or tlb' (j * 4 + 2 + h) 0) h
      new_halves j h g t = go (same? (j * 4 + 2 + h) (i * 4 + 2 + page % 2))
        where
          go : (j * 4 + 2 + h ≡ i * 4 + 2 + page % 2) ⊎ (j * 4 + 2 + h ≡ i * 4 + 2 + page % 2 → ⊥) → Half may k p.next p.pages (get_or tlb' (j * 4 + 1) 0) (get_or tlb' (j * 4 + 2 + h) 0) h
          go (inr n) = rw (hi_same j, same (j * 4 + 2 + h) n) (P.halves j h g t)
          go (inl e) =
              let ji : j ≡ i = omega arith in
              let hp : h ≡ page % 2 = omega arith in
              rw (ji, hp, hi_same i, granted_here p.tlb P.slots i (page % 2) 0 (granted (lo p i (page % 2)) w) there (omega arith))
              (raised (P.halves i (page % 2) inside (omega arith)))

  crowded_planned : Planned may k (crowded p a)
  unfolding crowded
  crowded_planned =
      record {
        used_small = P.used_small;
        used_next = P.used_next;
        after = P.after;
        low = P.low;
        slots = P.slots;
        pages = P.pages;
        masks = P.masks;
        fresh_hi = P.fresh_hi;
        fresh_lo = P.fresh_lo;
        keyed = P.keyed;
        apart = P.apart;
        halves = P.halves;
      }

  -- a page more, and it is still such a plan
  pub add_planned : Planned may k (add p a page w)
  unfolding add add_at
  add_planned = go (eqb (lo p (find p.tlb (key a page) p.used 0) (page % 2)) 0) refl
    where
      left : (b : Bool) → ltb p.next 16 ≡ b → lo p (find p.tlb (key a page) p.used 0) (page % 2) ≡ 0 → Planned may k (pick b (taken p a page w (find p.tlb (key a page) p.used 0)) (crowded p a))
      left true e z = taken_planned (find p.tlb (key a page) p.used 0) at (ltb-true _ _ e) z
      left false e z = crowded_planned

      go : (b : Bool) → eqb (lo p (find p.tlb (key a page) p.used 0) (page % 2)) 0 ≡ b → Planned may k (pick b (pick (ltb p.next 16) (taken p a page w (find p.tlb (key a page) p.used 0)) (crowded p a)) (again p page w (find p.tlb (key a page) p.used 0)))
      go true e = left (ltb p.next 16) refl (eqb-true _ _ e)
      go false e = again_planned (find p.tlb (key a page) p.used 0) at (eqb-false _ _ e)
