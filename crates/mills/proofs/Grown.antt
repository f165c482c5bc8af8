-- What adding the pages of segments, of programs and of all programs leaves: such a plan again, and every page there.
use Prim.Native.Nat.{ℕ, zero, suc, ◌+◌, ◌^◌, ◌<◌, ◌≤◌}
use native.Mathlib.Omega.{arith}
use mathlib.Core.Path.{◌≡◌, sym, subst}
use mathlib.Core.Bool.{Bool, true}
use mathlib.Core.List.{List}
use Rattle.std.specs.Prelude.{None}
use mathlib.Core.Logic.{◌⊎◌, inl, inr}
use Rattle.elf.specs.declared.Space.TheVariants.{User}
use Rattle.elf.specs.Header.{count}
use Rattle.elf.specs.Pages.{pages_at}
use Rattle.place.specs.Plan.{Plan, add, add_run, add_segment, add_segments, add_program, add_programs, stack}
use Rattle.mills.proofs.Planned.{Planned, add_planned, same?}
use Rattle.mills.proofs.There.{There, added}

-- the pages of program a are there: its segments', and its stack's
pub record Whole (a : ℕ) (file : List ℕ) (q : Plan) : Type 0 where
  pub segments : (j : ℕ) → j < count file → (y : ℕ) → (pages_at User file j).first ≤ y → y < (pages_at User file j).first + (pages_at User file j).count → There q a y (pages_at User file j).writable
  pub stack_there : There q a stack true

module _ (may : ℕ → ℕ → Bool → Type 0) (k : ℕ) where
  -- a plan grew to another: what was there stays, and it was not full before
  pub record Grown (p q : Plan) : Type 0 where
    pub planned : Planned may k q
    pub keeps : (b x : ℕ) (w : Bool) → There p b x w → There q b x w
    pub before : q.full ≡ None → p.full ≡ None

  still : (p : Plan) → Planned may k p → Grown p p
  still p P = record { planned = P; keeps = λ b x w T. T; before = λ e. e }

  then : {p q r : Plan} → Grown p q → Grown q r → Grown p r
  then g h = record { planned = h.planned; keeps = λ b x w T. h.keeps b x w (g.keeps b x w T); before = λ e. g.before (h.before e) }

  -- a page of ASID a may be asked for, writable or not
  pub record Fit (a x : ℕ) (w : Bool) : Type 0 where
    pub small : x < 2 ^ 19
    pub allowed : may a x w

  -- the pages of each header may be asked for
  abbrev pub FitFile : ℕ → List ℕ → Type 0
  FitFile a file = (i : ℕ) → i < count file → (y : ℕ) → (pages_at User file i).first ≤ y → y < (pages_at User file i).first + (pages_at User file i).count → Fit a y (pages_at User file i).writable

  module _ (a : ℕ) (a-some : 1 ≤ a) (a_small : a < 256) where
    -- it grew by page x of ASID a
    record Grew (x : ℕ) (w : Bool) (p q : Plan) : Type 0 where
      grown : Grown p q
      has : q.full ≡ None → There q a x w

    add_grew : (p : Plan) → Planned may k p → (x : ℕ) (w : Bool) → Fit a x w → Grew x w p (add p a x w)
    add_grew p P x w F =
        let d = added may k p P a x w a-some a_small F.small F.allowed in
        record {
          grown = record { planned = add_planned may k p P a x w a-some a_small F.small F.allowed; keeps = d.keeps; before = d.before };
          has = d.makes;
        }

    -- it grew by n pages from page x on
    pub record GrewBy (x n : ℕ) (w : Bool) (p q : Plan) : Type 0 where
      pub grown : Grown p q
      pub has : q.full ≡ None → (y : ℕ) → x ≤ y → y < x + n → There q a y w

    run_grew : (n : ℕ) (p : Plan) → Planned may k p → (x : ℕ) (w : Bool) → ((y : ℕ) → x ≤ y → y < x + n → Fit a y w) → GrewBy x n w p (add_run p a x w n)
    unfolding add_run
    run_grew zero p P x w F = record { grown = still p P; has = λ e y l u. absurd (omega arith) }
    run_grew (suc n) p P x w F =
        let g = add_grew p P x w (F x (omega arith) (omega arith)) in
        let h = run_grew n (add p a x w) g.grown.planned (x + 1) w (λ y l u. F y (omega arith) (omega arith)) in
        record { grown = then g.grown h.grown; has = λ e y l u. at g h e y l u (same? y x) }
      where
        at : Grew x w p (add p a x w) → GrewBy (x + 1) n w (add p a x w) (add_run (add p a x w) a (x + 1) w n) → (add_run (add p a x w) a (x + 1) w n).full ≡ None → (y : ℕ) → x ≤ y → y < x + suc n → (y ≡ x) ⊎ (y ≡ x → ⊥) → There (add_run (add p a x w) a (x + 1) w n) a y w
        at g h e y l u (inl s) = subst (λ (z : ℕ). There (add_run (add p a x w) a (x + 1) w n) a z w) (sym s) (h.grown.keeps a x w (g.has (h.grown.before e)))
        at g h e y l u (inr s) = h.has e y (omega arith) (omega arith)

    -- it grew by the pages of n headers from header i on
    record GrewSegments (file : List ℕ) (i n : ℕ) (p q : Plan) : Type 0 where
      grown : Grown p q
      has : q.full ≡ None → (j : ℕ) → i ≤ j → j < i + n → (y : ℕ) → (pages_at User file j).first ≤ y → y < (pages_at User file j).first + (pages_at User file j).count → There q a y (pages_at User file j).writable

    segments_grew : (file : List ℕ) → FitFile a file → (n : ℕ) (p : Plan) → Planned may k p → (i : ℕ) → i + n ≤ count file → GrewSegments file i n p (add_segments p a file n i)
    unfolding add_segments add_segment
    segments_grew file F zero p P i h = record { grown = still p P; has = λ e j l u y f t. absurd (omega arith) }
    segments_grew file F (suc n) p P i h =
        let g = run_grew (pages_at User file i).count p P (pages_at User file i).first (pages_at User file i).writable (F i (omega arith)) in
        let s = segments_grew file F n (add_segment p a file i) g.grown.planned (i + 1) (omega arith) in
        record { grown = then g.grown s.grown; has = λ e j l u. at g s e j l u (same? j i) }
      where
        at : GrewBy (pages_at User file i).first (pages_at User file i).count (pages_at User file i).writable p (add_segment p a file i) → GrewSegments file (i + 1) n (add_segment p a file i) (add_segments (add_segment p a file i) a file n (i + 1)) → (add_segments (add_segment p a file i) a file n (i + 1)).full ≡ None → (j : ℕ) → i ≤ j → j < i + suc n → (j ≡ i) ⊎ (j ≡ i → ⊥) → (y : ℕ) → (pages_at User file j).first ≤ y → y < (pages_at User file j).first + (pages_at User file j).count → There (add_segments (add_segment p a file i) a file n (i + 1)) a y (pages_at User file j).writable
        at g s e j l u (inl d) =
            subst (λ (m : ℕ). (y : ℕ) → (pages_at User file m).first ≤ y → y < (pages_at User file m).first + (pages_at User file m).count → There (add_segments (add_segment p a file i) a file n (i + 1)) a y (pages_at User file m).writable) (sym d)
            (λ y f t. s.grown.keeps a y (pages_at User file i).writable (g.has (s.grown.before e) y f t))
        at g s e j l u (inr d) = s.has e j (omega arith) (omega arith)

    pub record GrewProgram (file : List ℕ) (p q : Plan) : Type 0 where
      pub grown : Grown p q
      pub has : q.full ≡ None → Whole a file q

    pub program_grew : (file : List ℕ) → FitFile a file → may a stack true → (p : Plan) → Planned may k p → GrewProgram file p (add_program p a file)
    unfolding add_program
    program_grew file F m p P =
        let s = segments_grew file F (count file) p P 0 (omega arith) in
        let t = add_grew (add_segments p a file (count file) 0) s.grown.planned stack true (record { small = omega arith; allowed = m }) in
        record {
          grown = then s.grown t.grown;
          has =
              λ e.
              record {
                segments = λ j h y f u. t.grown.keeps a y (pages_at User file j).writable (s.has (t.grown.before e) j (omega arith) (omega arith) y f u);
                stack_there = t.has e;
              };
        }

  -- it grew by n programs from program a on
  pub record GrewPrograms (file : ℕ → List ℕ) (a n : ℕ) (p q : Plan) : Type 0 where
    pub grown : Grown p q
    pub has : q.full ≡ None → (b : ℕ) → a ≤ b → b < a + n → Whole b (file b) q

  carry : (b : ℕ) (file : List ℕ) (q r : Plan) → Grown q r → Whole b file q → Whole b file r
  carry b file q r G W =
      record {
        segments = λ j l y f u. G.keeps b y (pages_at User file j).writable (W.segments j l y f u);
        stack_there = G.keeps b stack true W.stack_there;
      }

  pub programs_grew : (file : ℕ → List ℕ) (n a : ℕ) → 1 ≤ a → a + n ≤ 256 → ((b : ℕ) → a ≤ b → b < a + n → FitFile b (file b) × may b stack true) → (p : Plan) → Planned may k p → GrewPrograms file a n p (add_programs p file n a)
  unfolding add_programs
  programs_grew file zero a h t F p P = record { grown = still p P; has = λ e b l u. absurd (omega arith) }
  programs_grew file (suc n) a h t F p P =
      let f = F a (omega arith) (omega arith) in
      let g = program_grew a h (omega arith) (file a) f.0 f.1 p P in
      let r = programs_grew file n (a + 1) (omega arith) (omega arith) (λ b l u. F b (omega arith) (omega arith)) (add_program p a (file a)) g.grown.planned in
      record { grown = then g.grown r.grown; has = λ e b l u. at g.has r e b l u (same? b a) }
    where
      at : ((add_program p a (file a)).full ≡ None → Whole a (file a) (add_program p a (file a))) → GrewPrograms file (a + 1) n (add_program p a (file a)) (add_programs (add_program p a (file a)) file n (a + 1)) → (add_programs (add_program p a (file a)) file n (a + 1)).full ≡ None → (b : ℕ) → a ≤ b → b < a + suc n → (b ≡ a) ⊎ (b ≡ a → ⊥) → Whole b (file b) (add_programs (add_program p a (file a)) file n (a + 1))
      at g r e b l u (inr d) = r.has e b (omega arith) (omega arith)
      at g r e b l u (inl d) = subst (λ (m : ℕ). Whole m (file m) (add_programs (add_program p a (file a)) file n (a + 1))) (sym d) (carry a (file a) (add_program p a (file a)) (add_programs (add_program p a (file a)) file n (a + 1)) r.grown (g (r.grown.before e)))
