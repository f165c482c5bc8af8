-- A load of the place that a store wrote gives the value back.
use Prim.Native.Nat.{ℕ, zero, suc, ◌+◌, ◌-◌, ◌*◌, ◌/◌, ◌%◌, ◌^◌, ◌<◌}
use native.Mathlib.Omega.{arith}
use Rattle.std.specs.Prelude.{◌≡◌, true, length, get_or, Some}
use Rattle.std.proofs.Math.Path.{sym, ap}
use Rattle.std.proofs.Common.{◌∙◌, lit<}
use mathlib.Core.List.{List}
use Rattle.memory.specs.declared.Eight.TheVariants.{Ram}
use Rattle.memory.specs.declared.Store.{Store}
use Rattle.memory.specs.Bytes.{byte, eight_of}
use Rattle.memory.specs.BytesLaws.{byte_shift, same_bytes}
use Rattle.memory.specs.Memory.{eight_at, part, read}
use Rattle.memory.proofs.MemoryLaws.{eight_byte, part_ram, read_ram}
use Rattle.memory.specs.Loads.{span, field}
use Rattle.memory.specs.Stores.{lands, put_bytes}
use Rattle.memory.specs.StoreLaws.{Bytes, bytes_put, length_put, landing, put_byte}

module _
    (l : List ℕ)
    (b₀ : get_or l 0 0 < 256)
    (b₁ : get_or l 1 0 < 256)
    (b₂ : get_or l 2 0 < 256)
    (b₃ : get_or l 3 0 < 256)
    (b₄ : get_or l 4 0 < 256)
    (b₅ : get_or l 5 0 < 256)
    (b₆ : get_or l 6 0 < 256)
    (b₇ : get_or l 7 0 < 256)
  where
    byte_at : (k : ℕ) → k < 8 → byte (eight_of l) k ≡ get_or l (7 - k) 0
    unfolding eight_of byte
    byte_at zero q = omega arith
    byte_at (suc zero) q = omega arith
    byte_at (suc (suc zero)) q = omega arith
    byte_at (suc (suc (suc zero))) q = omega arith
    byte_at (suc (suc (suc (suc zero)))) q = omega arith
    byte_at (suc (suc (suc (suc (suc zero))))) q = omega arith
    byte_at (suc (suc (suc (suc (suc (suc zero)))))) q = omega arith
    byte_at (suc (suc (suc (suc (suc (suc (suc zero))))))) q = omega arith
    byte_at (suc (suc (suc (suc (suc (suc (suc (suc k)))))))) q = let y : ⊥ = omega arith in absurd y

-- byte k of eight bytes as a number is the one that k follow
pub byte_eight : (l : List ℕ) (k : ℕ) → ((i : ℕ) → i < 8 → get_or l i 0 < 256) → k < 8 → byte (eight_of l) k ≡ get_or l (7 - k) 0
byte_eight l k h lt =
    byte_at l (h 0 (lit< tt)) (h 1 (lit< tt)) (h 2 (lit< tt)) (h 3 (lit< tt)) (h 4 (lit< tt)) (h 5 (lit< tt)) (h 6 (lit< tt)) (h 7 (lit< tt)) k lt

module _ (ram rom : List ℕ) (s : Store) (t : lands ram s ≡ true) (b : Bytes ram) where
  after : List ℕ
  after = put_bytes ram (Some s)

  there : s.to.0 / 8 < length after / 8
  unfolding after
  there = rw (length_put ram (Some s)) (landing ram s t).0

  -- byte k of what is then read around p
  byte_after : (k : ℕ) → k < 8 → byte (eight_of (part after rom s.to)) k ≡ get_or after (s.to.0 / 8 * 8 + (7 - k)) 0
  unfolding after
  byte_after k h =
      ap (λ (l : List ℕ). byte (eight_of l) k) (part_ram after rom s.to there)
      ∙ byte_eight (eight_at after s.to.0) k (λ i l. rw (eight_byte after s.to.0 i l) (bytes_put ram (Some s) b _)) h
      ∙ eight_byte after s.to.0 (7 - k) (omega arith)

  span_after : span s.size (eight_of (part after rom s.to)) (s.to.0 % 8) ≡ s.value % 2 ^ (8 * s.size)
  unfolding after span
  span_after = same_bytes s.size _ s.value each
    where
      m : ℕ
      m = 8 - (s.to.0 % 8 + s.size)

      each : (i : ℕ) → i < s.size → byte (eight_of (part after rom s.to) / 2 ^ (8 * m)) i ≡ byte s.value i
      each i h =
          let g = (landing ram s t).2 in
          let e : s.to.0 / 8 * 8 + (7 - (m + i)) ≡ s.to.0 + (s.size - 1 - i) = omega arith in
          let f : s.size - 1 - (s.size - 1 - i) ≡ i = omega arith in
          byte_shift (eight_of (part after rom s.to)) m i
          ∙ byte_after (m + i) (omega arith)
          ∙ ap (λ (k : ℕ). get_or after k 0) e
          ∙ put_byte ram s t (s.size - 1 - i) (omega arith)
          ∙ ap (byte s.value) f

  -- after a store that lands at an aligned place, that place is read from RAM and holds the value's low `s.size` bytes
  pub load_after_store :
      s.to.0 % 8 / s.size * s.size ≡ s.to.0 % 8
      → (n : ℕ) × (read (put_bytes ram (Some s)) rom s.to ≡ Some (Ram n)) × (field s.size n s.to ≡ s.value % 2 ^ (8 * s.size))
  unfolding after
  load_after_store e = (eight_of (part after rom s.to), sym (read_ram after rom s.to there), ap (span s.size (eight_of (part after rom s.to))) e ∙ span_after)
