-- The turns of the loops: what is left gives what the whole gives.
use Prim.Native.Nat.{ℕ, zero, suc, ◌+◌, ◌-◌, ◌*◌, ◌<◌, ◌≤◌}
use mathlib.Core.Bool.{Bool, true, false}
use mathlib.Core.Path.{◌≡◌, refl, sym, ap, ◌∙◌}
use mathlib.Core.List.{List, [], ◌∷◌, ◌++◌, append_assoc, append-nil}
use native.Mathlib.Omega.{arith}
use native.Mathlib.Numerals.{add-one}
use lib.Dec.{eqb}
use Rattle.promise.specs.Pick.{pick}
use lib.ListN.{length, get_or, set, take}
use lib.Seq.{take_all, take-suc-set}
use Rattle.elf.proofs.Turns.{one_more, no_more}
use Rattle.std.specs.Prelude.{Option, Some, None, unwrap_or, max}
use Rattle.std.specs.Option.{option_map}
use Rattle.std.specs.List.{fold, range_with_len}
use Rattle.std.specs.List as lists
use Rattle.place.specs.declared.Owner.{Owner}
use Rattle.place.specs.Plan.{Plan, find, add, add_run, add_segment, add_segments, add_program, add_programs, top_of, top_from}
use Rattle.place.specs.Ram.{byte_at, bytes_from}
use Rattle.place.specs.Made.{none, or, program_refusal, programs_refusal}

-- the slot that is found, as the first of a range
module _ (tlb : List ℕ) (hi : ℕ) where
  pub find_first : (left i : ℕ) → unwrap_or (lists.find (λ (k : ℕ). eqb (get_or tlb (k * 4 + 1) 0) hi) (range_with_len i left)) (i + left) ≡ find tlb hi left i
  unfolding find
  find_first zero i = omega arith
  find_first (suc left) i = go (find_first left (i + 1)) (eqb (get_or tlb (i * 4 + 1) 0) hi) refl
    where
      go : unwrap_or (lists.find (λ (k : ℕ). eqb (get_or tlb (k * 4 + 1) 0) hi) (range_with_len (i + 1) left)) (i + 1 + left) ≡ find tlb hi left (i + 1)
          → (b : Bool) → eqb (get_or tlb (i * 4 + 1) 0) hi ≡ b → unwrap_or (lists.find (λ (k : ℕ). eqb (get_or tlb (k * 4 + 1) 0) hi) (range_with_len i (suc left))) (i + suc left) ≡ find tlb hi (suc left) i
      go rest true e = simp e
      go rest false e = let n : i + suc left ≡ i + 1 + left = omega arith in simp (e, n) rest

  pub find_is : (left i past : ℕ) → past ≡ i + left → (r : Option ℕ) → option_map (λ (x : ℕ). x) r ≡ lists.find (λ (k : ℕ). eqb (get_or tlb (k * 4 + 1) 0) hi) (range_with_len i left) → unwrap_or r past ≡ find tlb hi left i
  find_is left i past q None e = ap (unwrap_or None) q ∙ ap (λ (o : Option ℕ). unwrap_or o (i + left)) e ∙ find_first left i
  find_is left i past q (Some x) e = ap (unwrap_or (Some x)) q ∙ ap (λ (o : Option ℕ). unwrap_or o (i + left)) e ∙ find_first left i

  pub find_most : (left i : ℕ) → find tlb hi left i ≤ i + left
  unfolding find
  find_most zero i = omega arith
  find_most (suc left) i = go (find_most left (i + 1)) (eqb (get_or tlb (i * 4 + 1) 0) hi)
    where
      go : find tlb hi left (i + 1) ≤ i + 1 + left → (b : Bool) → pick b i (find tlb hi left (i + 1)) ≤ i + suc left
      go rest true = omega arith
      go rest false = omega (arith, rest)

module _ (p : Plan) where
  -- the pages from this one on, below `past`
  module _ (asid page : ℕ) (writable : Bool) (past : ℕ) where
    pub run_next : (q : Plan) → q ≡ add p asid page writable → page < past → add_run p asid page writable (past - page) ≡ add_run q asid (page + 1) writable (past - (page + 1))
    unfolding add_run
    run_next q e h =
        one_more (add_run p asid page writable) past page h
        ∙ ap (λ (r : Plan). add_run r asid (page + 1) writable (past - (page + 1))) (sym e)

    pub run_done : past ≤ page → add_run p asid page writable (past - page) ≡ p
    unfolding add_run
    run_done h = no_more (add_run p asid page writable) past page h

  -- the headers from i on, of n
  module _ (asid : ℕ) (file : List ℕ) (n i : ℕ) where
    pub segments_next : (q : Plan) → q ≡ add_segment p asid file i → i < n → add_segments p asid file (n - i) i ≡ add_segments q asid file (n - (i + 1)) (i + 1)
    unfolding add_segments
    segments_next q e h =
        one_more (λ (k : ℕ). add_segments p asid file k i) n i h
        ∙ ap (λ (r : Plan). add_segments r asid file (n - (i + 1)) (i + 1)) (sym e)

    pub segments_done : n ≤ i → add_segments p asid file (n - i) i ≡ p
    unfolding add_segments
    segments_done h = no_more (λ (k : ℕ). add_segments p asid file k i) n i h

  -- the programs from number k on, below `past`
  module _ (file : ℕ → List ℕ) (past k : ℕ) where
    pub programs_next : (q : Plan) (f : List ℕ) → f ≡ file k → q ≡ add_program p k f → k < past → add_programs p file (past - k) k ≡ add_programs q file (past - (k + 1)) (k + 1)
    unfolding add_programs
    programs_next q f g e h =
        one_more (λ (n : ℕ). add_programs p file n k) past k h
        ∙ ap (λ (r : Plan). add_programs r file (past - (k + 1)) (k + 1)) (sym (e ∙ ap (add_program p k) g))

    pub programs_done : past ≤ k → add_programs p file (past - k) k ≡ p
    unfolding add_programs
    programs_done h = no_more (λ (n : ℕ). add_programs p file n k) past k h

-- where the pages of the headers end, as a fold over them
pub top_is : (file : List ℕ) (left i top : ℕ) → fold (λ (t k : ℕ). max t (top_of file k)) top (range_with_len i left) ≡ top_from file left i top
unfolding top_from
top_is file zero i top = refl
top_is file (suc left) i top = top_is file left (i + 1) (max top (top_of file i))

-- the programs from number k on, below `past`
module _ (file : ℕ → List ℕ) (past k : ℕ) where
  pub refused_next : k < past → programs_refusal file (past - k) k ≡ or (program_refusal file k) (programs_refusal file (past - (k + 1)) (k + 1))
  unfolding programs_refusal
  refused_next h = one_more (λ (m : ℕ). programs_refusal file m k) past k h

  pub refused_done : past ≤ k → programs_refusal file (past - k) k ≡ none
  unfolding programs_refusal
  refused_done h = no_more (λ (m : ℕ). programs_refusal file m k) past k h

-- what is filled, and what is left to fill
module _ (file : ℕ → List ℕ) (kernel : ℕ) (pages : List (Option Owner)) (ram : List ℕ) (all p : ℕ) (e : length ram ≡ all) where
  pub fill_next : (b : ℕ) → b ≡ byte_at file kernel pages p → p < length ram → take (p + 1) (set ram p b) ++ bytes_from file kernel pages (all - (p + 1)) (p + 1) ≡ take p ram ++ bytes_from file kernel pages (all - p) p
  unfolding bytes_from
  fill_next b g h =
      let k : suc (all - (p + 1)) ≡ all - p = omega arith in
      ap (λ (n : ℕ). take n (set ram p b) ++ bytes_from file kernel pages (all - (p + 1)) (p + 1)) (add-one p)
      ∙ ap (λ (s : List ℕ). s ++ bytes_from file kernel pages (all - (p + 1)) (p + 1)) (take-suc-set ram p b h)
      ∙ append_assoc (take p ram) (b ∷ []) (bytes_from file kernel pages (all - (p + 1)) (p + 1))
      ∙ ap (λ (x : ℕ). take p ram ++ (x ∷ bytes_from file kernel pages (all - (p + 1)) (p + 1))) g
      ∙ ap (λ (n : ℕ). take p ram ++ bytes_from file kernel pages n p) k

  pub fill_done : length ram ≤ p → take p ram ++ bytes_from file kernel pages (all - p) p ≡ ram
  unfolding bytes_from
  fill_done h =
      let k : all - p ≡ 0 = omega arith in
      ap (λ (n : ℕ). take p ram ++ bytes_from file kernel pages n p) k
      ∙ append-nil (take p ram)
      ∙ take_all p ram h
