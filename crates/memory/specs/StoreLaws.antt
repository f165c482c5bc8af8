-- Laws of stores: which bytes a store sets, what it leaves as it was, and what it depends on.
use Rattle.std.specs.Prelude.{ℕ, zero, suc, ◌+◌, ◌-◌, ◌/◌, ◌%◌, ◌≤◌, ◌<◌, ◌≡◌, List, [], ◌∷◌, Bool, ◌≢◌, length, set, leb, Option, Some, None}
use Rattle.std.proofs.Math.Decide.{ℕ_discrete, dec_lt}
use Rattle.std.proofs.Common.{arith, sym, ◌∙◌, ap, length-set, get_or-set_same, get_or-set_other, ltb-true, leb-true}
use Rattle.std.proofs.Math.Path.{refl}
use Rattle.std.proofs.Math.Bool.{true, false}
use Rattle.std.proofs.Math.ListN.{get_or, get_or-eq_default}
use Rattle.std.proofs.lemmas.List.Edits.{sets}
use Rattle.std.proofs.Math.Seq.{length-sets}
use Rattle.promise.specs.Pick.{pick, both}
use Rattle.memory.specs.declared.Store.{Store}
use Rattle.memory.specs.Bytes.{byte, bytes_of}
use Rattle.memory.specs.BytesLaws.{byte_lt}
use Rattle.memory.specs.Memory.{in_ram}
use Rattle.memory.specs.Stores.{lands, put_bytes, put_answer}

pub length_bytes : (n x : ℕ) → length (bytes_of n x) ≡ n
unfolding bytes_of
length_bytes zero x = refl
length_bytes (suc n) x = ap suc (length_bytes n x)

-- a run of bytes leaves a place that it does not name
pub sets_other : (l : List ℕ) (i : ℕ) (vs : List ℕ) (k : ℕ) → ((j : ℕ) → j < length vs → k ≢ i + j) → get_or (sets l i vs) k 0 ≡ get_or l k 0
sets_other l i [] k h = refl
sets_other l i (v ∷ vs) k h =
    sets_other (set l i v) (suc i) vs k (λ j lt e. h (suc j) (omega arith) (omega arith))
    ∙ get_or-set_other l i k v 0 (λ e. h 0 (omega arith) (omega arith))

-- at the others it leaves its own
pub sets_byte : (l : List ℕ) (i n x j : ℕ) → i + n ≤ length l → j < n → get_or (sets l i (bytes_of n x)) (i + j) 0 ≡ byte x (n - 1 - j)
unfolding bytes_of
sets_byte l i zero x j h lt = let y : ⊥ = omega arith in absurd y
sets_byte l i (suc n) x zero h lt =
    let e : suc n - 1 - 0 ≡ n = omega arith in
    let z : i + 0 ≡ i = omega arith in
    rw (e, z)
    (sets_other (set l i (byte x n)) (suc i) (bytes_of n x) i (λ j t q. omega arith) ∙ get_or-set_same l i (byte x n) 0 (omega arith))
sets_byte l i (suc n) x (suc j) h lt =
    let e : suc n - 1 - suc j ≡ n - 1 - j = omega arith in
    let z : i + suc j ≡ suc i + j = omega arith in
    rw (e, z) (sets_byte (set l i (byte x n)) (suc i) n x j (omega (arith, length-set l i (byte x n))) (omega arith))

-- two lists that agree at a place agree there after the same run of bytes
set_agree : (l l' : List ℕ) (i v k : ℕ) → length l ≡ length l' → get_or l k 0 ≡ get_or l' k 0 → get_or (set l i v) k 0 ≡ get_or (set l' i v) k 0
set_agree l l' i v k e h = go (ℕ_discrete k i) (dec_lt i (length l))
  where
    go : Dec (k ≡ i) → Dec (i < length l) → get_or (set l i v) k 0 ≡ get_or (set l' i v) k 0
    go (no n) d = get_or-set_other l i k v 0 n ∙ h ∙ sym (get_or-set_other l' i k v 0 n)
    go (yes q) (yes lt) = rw q (get_or-set_same l i v 0 lt ∙ sym (get_or-set_same l' i v 0 (omega arith)))
    go (yes q) (no ge) =
        rw q
        (get_or-eq_default (set l i v) 0 (omega (arith, length-set l i v)) ∙ sym (get_or-eq_default (set l' i v) 0 (omega (arith, length-set l' i v))))

sets_agree : (l l' : List ℕ) (i : ℕ) (vs : List ℕ) (k : ℕ) → length l ≡ length l' → get_or l k 0 ≡ get_or l' k 0 → get_or (sets l i vs) k 0 ≡ get_or (sets l' i vs) k 0
sets_agree l l' i [] k e h = h
sets_agree l l' i (v ∷ vs) k e h =
    sets_agree (set l i v) (set l' i v) (suc i) vs k (length-set l i v ∙ e ∙ sym (length-set l' i v)) (set_agree l l' i v k e h)

-- every element is a byte
abbrev pub Bytes : List ℕ → Type 0
Bytes l = (k : ℕ) → get_or l k 0 < 256

set_bytes : (l : List ℕ) (i v : ℕ) → v < 256 → Bytes l → Bytes (set l i v)
set_bytes l i v h b k = go (ℕ_discrete k i) (dec_lt i (length l))
  where
    go : Dec (k ≡ i) → Dec (i < length l) → get_or (set l i v) k 0 < 256
    go (no n) d = rw (get_or-set_other l i k v 0 n) (b k)
    go (yes q) (yes lt) = rw (q, get_or-set_same l i v 0 lt) h
    go (yes q) (no ge) = omega (arith, get_or-eq_default (set l i v) 0 {n = k} (omega (arith, length-set l i v)))

sets_bytes : (l : List ℕ) (i n x : ℕ) → Bytes l → Bytes (sets l i (bytes_of n x))
unfolding bytes_of
sets_bytes l i zero x b = b
sets_bytes l i (suc n) x b = sets_bytes (set l i (byte x n)) (suc i) n x (set_bytes l i (byte x n) (byte_lt x n) b)

-- RAM keeps its length
pub length_put : (ram : List ℕ) (s : Option Store) → length (put_bytes ram s) ≡ length ram
unfolding put_bytes
length_put ram None = refl
length_put ram (Some s) = go (lands ram s)
  where
    go : (b : Bool) → length (pick b (sets ram s.to.0 (bytes_of s.size s.value)) ram) ≡ length ram
    go true = length-sets ram s.to.0 (bytes_of s.size s.value)
    go false = refl

-- and stays a list of bytes
pub bytes_put : (ram : List ℕ) (s : Option Store) → Bytes ram → Bytes (put_bytes ram s)
unfolding put_bytes
bytes_put ram None b = b
bytes_put ram (Some s) b = go (lands ram s)
  where
    go : (t : Bool) → Bytes (pick t (sets ram s.to.0 (bytes_of s.size s.value)) ram)
    go true = sets_bytes ram s.to.0 s.size s.value b
    go false = b

-- two RAMs as long have the same answer
pub answer_same : (ram ram' : List ℕ) (s : Option Store) → length ram ≡ length ram' → put_answer ram s ≡ put_answer ram' s
unfolding put_answer
answer_same ram ram' None e = refl
answer_same ram ram' (Some s) e = rw e

-- and where they agree, they agree after the same store
pub put_agree : (ram ram' : List ℕ) (s : Option Store) (k : ℕ) → length ram ≡ length ram' → get_or ram k 0 ≡ get_or ram' k 0 → get_or (put_bytes ram s) k 0 ≡ get_or (put_bytes ram' s) k 0
unfolding put_bytes
put_agree ram ram' None k e h = h
put_agree ram ram' (Some s) k e h = rw e (go (lands ram' s))
  where
    go : (b : Bool) → get_or (pick b (sets ram s.to.0 (bytes_of s.size s.value)) ram) k 0 ≡ get_or (pick b (sets ram' s.to.0 (bytes_of s.size s.value)) ram') k 0
    go true = sets_agree ram ram' s.to.0 (bytes_of s.size s.value) k e h
    go false = h

both_true : (a b : Bool) → both a b ≡ true → (a ≡ true) × (b ≡ true)
both_true true b e = (refl, e)
both_true false b e = let z : ◌≡◌ {A = ℕ} 0 1 = cc in absurd (omega arith)

-- what it is to land
pub landing :
    (ram : List ℕ) (s : Store)
    → lands ram s ≡ true
    → (s.to.0 / 8 < length ram / 8) × (1 ≤ s.size) × (s.to.0 % 8 + s.size ≤ 8)
landing ram s e =
    let a = both_true (in_ram ram s.to) _ e in
    let b = both_true (leb 1 s.size) _ a.1 in
    (ltb-true _ _ a.0, leb-true _ _ b.0, leb-true _ _ b.1)

module _ (ram : List ℕ) (s : Store) where
  -- a store leaves every byte outside its own
  pub put_other : (k : ℕ) → ((j : ℕ) → j < s.size → k ≢ s.to.0 + j) → get_or (put_bytes ram (Some s)) k 0 ≡ get_or ram k 0
  unfolding put_bytes
  put_other k h = go (lands ram s)
    where
      go : (b : Bool) → get_or (pick b (sets ram s.to.0 (bytes_of s.size s.value)) ram) k 0 ≡ get_or ram k 0
      go true = sets_other ram s.to.0 (bytes_of s.size s.value) k (λ j lt. h j (omega (arith, length_bytes s.size s.value)))
      go false = refl

  -- where it lands, its bytes stand there
  pub put_byte : lands ram s ≡ true → (j : ℕ) → j < s.size → get_or (put_bytes ram (Some s)) (s.to.0 + j) 0 ≡ byte s.value (s.size - 1 - j)
  unfolding put_bytes
  put_byte t j lt = rw t (sets_byte ram s.to.0 s.size s.value j (omega (arith, landing ram s t)) lt)

  -- where it does not land, nothing changes
  pub put_refused : lands ram s ≡ false → put_bytes ram (Some s) ≡ ram
  unfolding put_bytes
  put_refused t = rw t
