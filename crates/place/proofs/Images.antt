-- The image of files: refused, without room, or a text.
use Prim.Native.Nat.{ℕ}
use mathlib.Core.Path.{◌≡◌, refl, sym, ap, ◌∙◌}
use mathlib.Core.List.{List}
use Rattle.std.specs.Prelude.{Option, Some, None, Result, Ok, Err}
use lib.Seq.{sets}
use Rattle.place.specs.declared.Refusal.{Refusal}
use Rattle.place.specs.declared.Refusal.TheVariants.{NoRoom}
use Rattle.place.specs.Plan.{Plan, add_programs, kernel_pages, begun, plan_of}
use Rattle.place.specs.Ram.{bytes_from, ram_of}
use Rattle.place.specs.Made.{files_refusal, full_refusal, early, starts, written, text_of, text_answer, made_of, out_after, Answered}

-- an Option that is no value is none
pub not_some : {A : Type 0} (o : Option A) → ((k : A) → o ≡ Some k → ⊥) → o ≡ None
not_some None f = refl
not_some (Some k) f = absurd (f k refl)

module _ (file : ℕ → List ℕ) (n : ℕ) where
  -- the plan and the RAM, with the kernel's pages counted
  module _ (kernel : ℕ) (k : kernel ≡ kernel_pages (file 0)) where
    pub plan_is : (b p : Plan) → b ≡ begun kernel → p ≡ add_programs b file n 1 → p ≡ plan_of file n
    unfolding plan_of
    plan_is b p e f = f ∙ ap (λ (x : Plan). add_programs x file n 1) (e ∙ ap begun k)

    pub ram_is : (p : Plan) → p ≡ plan_of file n → (all : ℕ) → all ≡ 65536 → bytes_from file kernel p.pages all 0 ≡ ram_of file n
    unfolding ram_of
    ram_is p q all a =
        ap (λ (j : ℕ). bytes_from file j p.pages all 0) k
        ∙ ap (λ (x : Plan). bytes_from file (kernel_pages (file 0)) x.pages all 0) q
        ∙ ap (λ (j : ℕ). bytes_from file (kernel_pages (file 0)) (plan_of file n).pages j 0) a

  module _ (settings out : List ℕ) where
    -- refused before a text is written
    refuses : (r : Refusal) → early file n ≡ Err r → Answered (Err r) out (made_of file n settings) (out_after file n settings out)
    unfolding made_of out_after
    refuses r e = record { answer = simp e; buffer = simp e }

    pub early_refused : (r : Refusal) → Err r ≡ files_refusal file n → Answered (Err r) out (made_of file n settings) (out_after file n settings out)
    unfolding early
    early_refused r e = refuses r (simp (sym e))

    module _ (u : Unit {0}) (e : Ok u ≡ files_refusal file n) (p : Plan) (q : p ≡ plan_of file n) where
      full_is : early file n ≡ full_refusal (file 0) p.full
      unfolding early
      full_is = simp (sym e, sym q)

      pub full_refused : (k : ℕ) → p.full ≡ Some k → (kernel : ℕ) → kernel ≡ kernel_pages (file 0) → Answered (Err (NoRoom k kernel)) out (made_of file n settings) (out_after file n settings out)
      full_refused k f kernel g = refuses (NoRoom k kernel) (full_is ∙ simp (f, sym g))

      module _ (f : p.full ≡ None) (ram : List ℕ) (g : ram ≡ ram_of file n) (pc : ℕ) (s : pc ≡ starts file n) where
        text_by : written p.tlb ram p.used n pc settings ≡ text_of file n settings
        unfolding text_of
        text_by = simp (sym q, sym g, sym s)

        none_is : early file n ≡ Ok tt
        none_is = full_is ∙ simp f

        pub text_made_lem : (z : Result ℕ Refusal) (is : List ℕ) → Answered z is (text_answer p.tlb ram p.used n pc settings) (sets out 0 (written p.tlb ram p.used n pc settings)) → Answered z is (made_of file n settings) (out_after file n settings out)
        unfolding made_of out_after
        text_made_lem z is w =
            record {
              answer = w.answer ∙ simp (none_is, sym q, sym g, sym text_by);
              buffer = w.buffer ∙ simp (none_is, sym text_by);
            }
