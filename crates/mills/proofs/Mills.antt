-- The promise to the mills, of every image that is made.
use Prim.Native.Nat.{ℕ, zero, suc, ◌+◌, ◌-◌, ◌*◌, ◌/◌, ◌%◌, ◌^◌, ◌<◌, ◌≤◌}
use native.Mathlib.Omega.{arith}
use mathlib.Core.Path.{◌≡◌, refl, sym, ap, ◌∙◌, subst}
use mathlib.Core.Bool.{Bool, true, false}
use mathlib.Core.List.{List}
use mathlib.Core.Logic.{◌⊎◌, inl, inr}
use lib.Dec.{eqb}
use lib.ListN.{length, get_or}
use borrow.Author.Tests.{lt-ltb, le-ltb, eqb-true}
use Rattle.promise.specs.Pick.{pick}
use Rattle.tlb.specs.declared.Half.{Half}
use Rattle.tlb.specs.declared.Where.TheVariants.{Mapped}
use Rattle.tlb.specs.Translate.{vaddr, paddr, mapped}
use Rattle.card.specs.Run.{eights, refusal_by}
use Rattle.elf.specs.declared.Pages.{Pages}
use Rattle.elf.specs.declared.Space.TheVariants.{User}
use Rattle.elf.specs.Header.{count, header, loads}
use Rattle.elf.specs.Home.{physical, home, stands}
use Rattle.elf.specs.Pages.{spans, pages_of, pages_at}
use Rattle.elf.specs.Faults.{none, file_fault}
use Rattle.elf.proofs.Standing.{inside_user, segment_stands, nothing_stands}
use Rattle.image.proofs.Exact as image
use Rattle.std.specs.Prelude.{Option, Some, None, max}
use Rattle.place.specs.declared.Owner.{Owner}
use Rattle.place.specs.Plan.{Plan, owner, begun, top_of, top_from, kernel_pages, plan_of}
use Rattle.place.specs.Ram.{owned_byte, byte_at, bytes_from, ram_of}
use Rattle.place.specs.Made.{text_of, zeros}
use Rattle.mills.specs.Pages.{PageOf, Page, of_segment, of_stack}
use Rattle.mills.specs.Mills as spec
use Rattle.mills.specs.Mills.{Mill, Mills}
use Rattle.mills.proofs.Planned.{Planned, same?}
use Rattle.mills.proofs.There.{There}
use Rattle.mills.proofs.Grown.{Whole, GrewPrograms, FitFile, programs_grew}
use Rattle.mills.proofs.Begun.{begun_planned}
use Rattle.mills.proofs.Ways.{Way, way}
use Rattle.mills.proofs.Leads.{somewhere}
use Rattle.mills.proofs.Files.{Back, back, not_full, kernel_sound, vectors_sound, program_sound, printed}

-- the RAM's bytes, one by one
bytes_long : (file : ℕ → List ℕ) (k : ℕ) (pages : List (Option Owner)) (n p : ℕ) → length (bytes_from file k pages n p) ≡ n
unfolding bytes_from
bytes_long file k pages zero p = refl
bytes_long file k pages (suc n) p = ap suc (bytes_long file k pages n (p + 1))

bytes_at : (file : ℕ → List ℕ) (k : ℕ) (pages : List (Option Owner)) (n p q : ℕ) → q < n → get_or (bytes_from file k pages n p) q 0 ≡ byte_at file k pages (p + q)
unfolding bytes_from
bytes_at file k pages zero p q h = absurd (omega arith)
bytes_at file k pages (suc n) p zero h = ap (λ (x : ℕ). byte_at file k pages x) (omega arith)
bytes_at file k pages (suc n) p (suc q) h = bytes_at file k pages n (p + 1) q (omega arith) ∙ ap (λ (x : ℕ). byte_at file k pages x) (omega arith)

-- the pages of a header are those with an address of it, if it is a segment
module _ (file : List ℕ) (sound : file_fault User file ≡ none) (i : ℕ) (there : i < count file) where
  pages_are : pages_at User file i ≡ pages_of User file (header file i)
  unfolding pages_at
  pages_are = rw (lt-ltb i (count file) there) refl

  page_of : (y : ℕ) → (pages_at User file i).first ≤ y → y < (pages_at User file i).first + (pages_at User file i).count → PageOf file i y
  unfolding pages_of spans home
  page_of y l u = go (loads file (header file i)) refl
    where
      l' : (header file i).vaddr / 4096 ≤ y
      l' = subst (λ (g : Pages). g.first ≤ y) pages_are l

      u' : y < (header file i).vaddr / 4096 + pick (loads file (header file i)) (spans (header file i).vaddr (header file i).memsz) 0
      u' = subst (λ (g : Pages). y < g.first + g.count) pages_are u

      go : (b : Bool) → loads file (header file i) ≡ b → PageOf file i y
      go true e = let r : y < (header file i).vaddr / 4096 + (((header file i).vaddr + (header file i).memsz + 4095) / 4096 - (header file i).vaddr / 4096) = rw e at u' in record { there = there; loads = e; first = l'; last = omega arith }
      go false e = let r : y < (header file i).vaddr / 4096 + 0 = rw e at u' in let m = l' in absurd (omega arith)

  -- and the other way round
  record In (y : ℕ) : Type 0 where
    low : (pages_at User file i).first ≤ y
    high : y < (pages_at User file i).first + (pages_at User file i).count

  page_in : (y : ℕ) → PageOf file i y → In y
  unfolding pages_of spans home
  page_in y P =
      let r : y < (header file i).vaddr / 4096 + (((header file i).vaddr + (header file i).memsz + 4095) / 4096 - (header file i).vaddr / 4096) = let f = P.first in let t = P.last in omega arith in
      let c : pick (loads file (header file i)) (spans (header file i).vaddr (header file i).memsz) 0 ≡ spans (header file i).vaddr (header file i).memsz = rw P.loads refl in
      record {
        low = subst (λ (g : Pages). g.first ≤ y) (sym pages_are) P.first;
        high = subst (λ (g : Pages). y < g.first + g.count) (sym pages_are) (subst (λ (x : ℕ). y < (header file i).vaddr / 4096 + x) (sym c) r);
      }

  -- a page of a segment is one of the program's
  page_has : (y : ℕ) → PageOf file i y → Page file y (pages_at User file i).writable
  unfolding pages_of
  page_has y P = of_segment i P (sym (ap (λ (g : Pages). g.writable) pages_are))

  page_small : (y : ℕ) → PageOf file i y → y < 2 ^ 19
  page_small y P = let h = inside_user file sound i there P.loads in let t = P.last in omega arith

-- the kernel's pages are no fewer than each header's end
record Least (file : List ℕ) (left i top found : ℕ) : Type 0 where
  begun_there : top ≤ found
  each : (j : ℕ) → i ≤ j → j < i + left → top_of file j ≤ found

top_least : (file : List ℕ) (left i top : ℕ) → Least file left i top (top_from file left i top)
unfolding top_from
top_least file zero i top = record { begun_there = omega arith; each = λ j l u. absurd (omega arith) }
top_least file (suc left) i top =
    let r = top_least file left (i + 1) (max top (top_of file i)) in
    record { begun_there = let z = r.begun_there in omega arith; each = λ j l u. at r.begun_there r.each j l u (same? j i) }
  where
    at : {rest : ℕ} → max top (top_of file i) ≤ rest → ((j : ℕ) → i + 1 ≤ j → j < i + 1 + left → top_of file j ≤ rest) → (j : ℕ) → i ≤ j → j < i + suc left → (j ≡ i) ⊎ (j ≡ i → ⊥) → top_of file j ≤ rest
    at {rest} b r j l u (inl e) = subst (λ (x : ℕ). top_of file x ≤ rest) (sym e) (omega arith)
    at b r j l u (inr e) = r j (omega arith) (omega arith)

-- a kernel's segment is in the kernel's pages
kernel_covers : (file : List ℕ) (i : ℕ) → i < count file → loads file (header file i) ≡ true → (p : ℕ) → physical (header file i).vaddr ≤ p → p < physical (header file i).vaddr + (header file i).memsz → p / 4096 < kernel_pages file
unfolding kernel_pages top_of pages_at pages_of spans home
kernel_covers file i there l p f u = go (eqb n 0) refl
  where
    n : ℕ
    n = (physical (header file i).vaddr + (header file i).memsz + 4095) / 4096 - physical (header file i).vaddr / 4096

    top : top_of file i ≡ pick (eqb n 0) 0 (physical (header file i).vaddr / 4096 + n)
    top = rw (lt-ltb i (count file) there, l) refl

    least : top_of file i ≤ kernel_pages file
    least = (top_least file (count file) 0 0).each i (omega arith) (omega arith)

    go : (b : Bool) → eqb n 0 ≡ b → p / 4096 < kernel_pages file
    go true e = let z : n ≡ 0 = eqb-true _ _ e in absurd (omega arith)
    go false e =
        let t : top_of file i ≡ physical (header file i).vaddr / 4096 + n = top ∙ rw e refl in
        let m = least in
        omega arith

module _ (file : ℕ → List ℕ) (n : ℕ) (settings : List ℕ) (I : spec.Image file n settings) where
  abbrev k : ℕ
  k = kernel_pages (file 0)

  abbrev p : Plan
  p = plan_of file n

  abbrev may : ℕ → ℕ → Bool → Type 0
  may a x w = Page (file a) x w

  B : Back (text_of file n settings) (plan_of file n).tlb (ram_of file n)
  B = back file n settings I.some I.long I.made

  G : GrewPrograms may k file 1 n (begun (kernel_pages (file 0))) (plan_of file n)
  unfolding plan_of
  G =
      let f = I.few in
      programs_grew may k file n 1 (omega arith) (omega arith)
      (λ b l u. (fit b l u, of_stack refl refl))
      (begun (kernel_pages (file 0)))
      (begun_planned may (kernel_pages (file 0)))
    where
      fit : (b : ℕ) → 1 ≤ b → b < 1 + n → FitFile may k b (file b)
      fit b l u i there y low high =
          let s = program_sound file n settings I.some I.long I.made b l (omega arith) in
          let P = page_of (file b) s i there y low high in
          record { small = page_small (file b) s i there y P; allowed = page_has (file b) s i there y P }

  L : Planned may k (plan_of file n)
  L = G.grown.planned

  -- by the plan's TLB what holds by the machine's
  tlb_is : (spec.machine file n settings).tlb ≡ (plan_of file n).tlb
  tlb_is = B.slots

  mapped_is : (a v q : ℕ) (half : Half) → mapped (spec.machine file n settings).tlb a (vaddr v) ≡ Mapped (paddr q) half → mapped (plan_of file n).tlb a (vaddr v) ≡ Mapped (paddr q) half
  mapped_is a v q half e = subst (λ (t : List ℕ). mapped t a (vaddr v) ≡ Mapped (paddr q) half) tlb_is e

  ram_long : length (spec.ram file n settings) ≡ 65536
  unfolding ram_of
  ram_long = ap length B.bytes ∙ bytes_long file (kernel_pages (file 0)) (plan_of file n).pages 65536 0

  ram_at : (q : ℕ) → q < 65536 → get_or (spec.ram file n settings) q 0 ≡ byte_at file (kernel_pages (file 0)) (plan_of file n).pages q
  unfolding ram_of
  ram_at q h = ap (λ (l : List ℕ). get_or l q 0) B.bytes ∙ bytes_at file (kernel_pages (file 0)) (plan_of file n).pages 65536 0 q h ∙ ap (λ (x : ℕ). byte_at file (kernel_pages (file 0)) (plan_of file n).pages x) (omega arith)

  starts : spec.Starts file n settings
  unfolding refusal_by
  starts =
      record {
        read = B.read;
        accepted =
            λ rom lines r l.
            record {
              accepted = rw (ap (λ (x : ℕ). eights 8 16777216 x) ram_long, r, l, (image.exact (text_of file n settings) zeros).is_in_range) refl;
              user = B.like.user_mode;
              locked = B.like.locked;
            };
        first = B.like.first;
        from = B.like.from;
        kernel = kernel_sound file n settings I.some I.long I.made;
        refill = (vectors_sound file n settings I.some I.long I.made).0;
        general = (vectors_sound file n settings I.some I.long I.made).1;
        printed = λ out h long e. printed file n settings I.some long e out h;
      }

  -- where an address of program a leads
  module _ (a v q : ℕ) (half : Half) (M : Mill n a) (below : v < 2 ^ 31) (leads : mapped (spec.machine file n settings).tlb a (vaddr v) ≡ Mapped (paddr q) half) where
    W : Way (plan_of file n) L a v q half.dirty
    W = way (plan_of file n) L a v q half below (mapped_is a v q half leads)

    page_is : q / 4096 ≡ W.frame
    page_is = let e = W.is in omega arith

    ram_is : q < 65536
    ram_is = let e = W.is in let h = W.small in omega arith

    after : kernel_pages (file 0) ≤ q / 4096
    after = let e = page_is in let f = W.from in omega arith

    owned : get_or (plan_of file n).pages (q / 4096) None ≡ Some (owner a (v / 4096))
    owned = ap (λ (g : ℕ). get_or (plan_of file n).pages g None) page_is ∙ W.owned

    owner_is : spec.owner_of file n settings (q / 4096) ≡ a
    owner_is = ap (λ (o : Option Owner). spec.owner_asid o) owned

    byte_is : get_or (spec.ram file n settings) q 0 ≡ stands User (file a) v
    unfolding byte_at owned_byte
    byte_is =
        let e = W.is in
        let y : v / 4096 * 4096 + q % 4096 ≡ v = omega arith in
        ram_at q ram_is ∙ rw (le-ltb (q / 4096) (kernel_pages (file 0)) after, owned, y) refl

  apart : spec.Apart file n settings
  apart =
      record {
        own = λ a q M r. owner_is a r.from q r.half M r.below r.leads;
        after_kernel = λ a q M r. after a r.from q r.half M r.below r.leads;
        kernel_inside = λ i q h l f u. kernel_covers (file 0) i h l q f u;
        kernels = λ g h. ap (λ (o : Option Owner). spec.owner_asid o) (L.low g h);
        in_ram = λ a q M r. ram_is a r.from q r.half M r.below r.leads;
        alone =
            λ a b q t M N r s e.
            sym (owner_is a r.from q r.half M r.below r.leads)
            ∙ ap (λ (g : ℕ). spec.owner_of file n settings g) e
            ∙ owner_is b s.from t s.half N s.below s.leads;
      }

  -- a page that a program has is there
  has : (a x : ℕ) (w : Bool) → Mill n a → Page (file a) x w → There (plan_of file n) a x w
  unfolding pages_of
  has a x w M (of_segment i P e) =
      let s = program_sound file n settings I.some I.long I.made a M.some M.most in
      let c = page_in (file a) s i P.there x P in
      subst (λ (b : Bool). There (plan_of file n) a x b) (ap (λ (g : Pages). g.writable) (pages_are (file a) s i P.there) ∙ e)
      (whole.segments i P.there x c.low c.high)
    where
      whole : Whole a (file a) (plan_of file n)
      whole = let l = M.most in G.has (not_full file n settings I.some I.long I.made) a M.some (omega arith)
  has a x w M (of_stack e t) =
      let l = M.most in
      let W = G.has (not_full file n settings I.some I.long I.made) a M.some (omega arith) in
      subst (λ (b : Bool). There (plan_of file n) a x b) (sym t) (subst (λ (y : ℕ). There (plan_of file n) a y true) (sym e) W.stack_there)

  all : (a v : ℕ) (w : Bool) → Mill n a → v < 2 ^ 31 → Page (file a) (v / 4096) w → spec.Somewhere file n settings a v w
  all a v w M below P =
      let l = M.most in
      let f = I.few in
      let S = somewhere (plan_of file n) L a v w (omega arith) below (has a (v / 4096) w M P) in
      record {
        place = S.place;
        half = S.half;
        leads = subst (λ (t : List ℕ). mapped t a (vaddr v) ≡ Mapped (paddr S.place) S.half) (sym tlb_is) S.leads;
        dirty = S.dirty;
      }

  holds : spec.Holds file n settings
  unfolding byte_at home
  holds =
      record {
        holds = λ a v q half M below leads. byte_is a v q half M below leads;
        segment =
            λ a i v q half M t l f u leads.
            let s = program_sound file n settings I.some I.long I.made a M.some M.most in
            let e = inside_user (file a) s i t l in
            byte_is a v q half M (omega arith) leads ∙ segment_stands User (file a) s i t l v f u;
        elsewhere = λ a v q half M below no leads. byte_is a v q half M below leads ∙ nothing_stands User (file a) v no;
        only = λ a v q half M below leads. (W a v q half M below leads).allowed;
        all = all;
        kernel = λ q h r. ram_at q r ∙ rw (lt-ltb (q / 4096) (kernel_pages (file 0)) h) refl;
      }

pub mills : Mills
mills file n settings I = record { starts = starts file n settings I; apart = apart file n settings I; holds = holds file n settings I }
