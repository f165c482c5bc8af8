-- Laws of reading: by case of whose the address is, and on which bytes a read depends.
use Prim.Native.Nat.{ℕ, ◌+◌, ◌-◌, ◌*◌, ◌/◌, ◌^◌, ◌≤◌, ◌<◌}
use Rattle.std.proofs.Common.{arith, sym, ◌∙◌, ap₂, length-take, length-drop, ext_get_or, get_or-take, get_or-drop, lt-ltb, le-ltb, le-leb, leb-true, ltb-true}
use Rattle.std.specs.Prelude.{◌≡◌, get_or, drop, Some, None}
use Rattle.std.proofs.Math.Path.{refl, ap}
use mathlib.Core.List.{List, []}
use Rattle.std.proofs.Math.Bool.{Bool, true, false}
use Rattle.std.proofs.Math.Dec.{leb, ltb}
use Rattle.std.proofs.Math.ListN.{length}
use Rattle.promise.specs.Pick.{pick, both}
use Rattle.memory.specs.declared.PAddr.{PAddr}
use Rattle.memory.specs.declared.Eight.TheVariants.{Ram, Rom}
use Rattle.memory.specs.Bytes.{eight_of}
use Rattle.memory.specs.Memory.{rom_base, in_ram, in_rom, eight_at, part, read}

-- what a list has at all, it has eight of
pub eight_long : (l : List ℕ) (a : ℕ) → a / 8 < length l / 8 → length (eight_at l a) ≡ 8
eight_long l a h = simp (length-take, length-drop) (omega arith)

-- byte i of the eight is byte a / 8 * 8 + i of the list
pub eight_byte : (l : List ℕ) (a i : ℕ) → i < 8 → get_or (eight_at l a) i 0 ≡ get_or l (a / 8 * 8 + i) 0
eight_byte l a i h = get_or-take 8 (drop (a / 8 * 8) l) i 0 h ∙ get_or-drop (a / 8 * 8) l i 0

module _ (ram rom : List ℕ) (p : PAddr) where
  pub part_ram : p.0 / 8 < length ram / 8 → part ram rom p ≡ eight_at ram p.0
  unfolding part
  part_ram h = rw (lt-ltb _ _ h)

  pub read_ram : p.0 / 8 < length ram / 8 → Some (Ram (eight_of (part ram rom p))) ≡ read ram rom p
  unfolding read
  read_ram h = rw (lt-ltb _ _ h)

  part_none : in_ram ram p ≡ false → in_rom rom p ≡ false → part ram rom p ≡ []
  unfolding part
  part_none e f = rw (e, f)

  -- what is no RAM and has eight bytes is ROM
  pub read_rom : length ram / 8 ≤ p.0 / 8 → 8 ≤ length (part ram rom p) → Some (Rom (eight_of (part ram rom p))) ≡ read ram rom p
  unfolding read
  read_rom h l = rw (le-ltb _ _ h) (go (in_rom rom p) refl)
    where
      go : (b : Bool) → in_rom rom p ≡ b → Some (Rom (eight_of (part ram rom p))) ≡ pick b (Some (Rom (eight_of (part ram rom p)))) None
      go true e = refl
      go false e =
          let y : ⊥ = omega (arith, ap length (part_none (le-ltb _ _ h) e)) in
          absurd y

  -- what has no eight bytes is missing
  pub read_missing : length (part ram rom p) < 8 → None ≡ read ram rom p
  unfolding part read
  read_missing l = go (in_ram ram p) refl
    where
      rom_too : (b : Bool) → leb rom_base p.0 ≡ b → (d : Bool) → ltb ((p.0 - rom_base) / 8) (length rom / 8) ≡ d → in_ram ram p ≡ false → None ≡ read ram rom p
      rom_too false e d f t = rw (t, e)
      rom_too true e false f t = rw (t, e, f)
      rom_too true e true f t =
          let z : part ram rom p ≡ eight_at rom (p.0 - rom_base) = rw (t, e, f) in
          let y : ⊥ = omega (arith, ap length z, eight_long rom (p.0 - rom_base) (ltb-true _ _ f)) in
          absurd y

      go : (b : Bool) → in_ram ram p ≡ b → None ≡ read ram rom p
      go true e =
          let z : part ram rom p ≡ eight_at ram p.0 = rw e in
          let y : ⊥ = omega (arith, ap length z, eight_long ram p.0 (ltb-true _ _ e)) in
          absurd y
      go false e = rom_too (leb rom_base p.0) refl (ltb ((p.0 - rom_base) / 8) (length rom / 8)) refl e

-- two lists have the same eight bytes around the place a
abbrev pub SameEight : List ℕ → List ℕ → ℕ → Type 0
SameEight l l' a = (i : ℕ) → i < 8 → get_or l (a / 8 * 8 + i) 0 ≡ get_or l' (a / 8 * 8 + i) 0

pub eight_same : (l l' : List ℕ) (a : ℕ) → length l ≡ length l' → SameEight l l' a → eight_at l a ≡ eight_at l' a
eight_same l l' a e h =
    ext_get_or 0 (eight_at l a) (eight_at l' a) (simp (length-take, length-drop, e))
    (λ i k. let b : i < 8 = omega (arith, simp length-take at k) in eight_byte l a i b ∙ h i b ∙ sym (eight_byte l' a i b))

module _ (ram ram' rom rom' : List ℕ) (p : PAddr) (e : length ram ≡ length ram') (f : length rom ≡ length rom')
    (h : SameEight ram ram' p.0) (g : rom_base ≤ p.0 → SameEight rom rom' (p.0 - rom_base)) where
  -- a part depends on the eight bytes around the address only
  pub part_same : part ram rom p ≡ part ram' rom' p
  unfolding part
  part_same = rw (e, f) (ap₂ (pick (in_ram ram' p)) (eight_same ram ram' p.0 e h) (go (leb rom_base p.0) refl))
    where
      of_rom : Bool → List ℕ → List ℕ
      of_rom b l = pick (both b (ltb ((p.0 - rom_base) / 8) (length rom' / 8))) (eight_at l (p.0 - rom_base)) []

      go : (b : Bool) → leb rom_base p.0 ≡ b → of_rom b rom ≡ of_rom b rom'
      go false t = refl
      go true t =
          ap (λ (x : List ℕ). pick (ltb ((p.0 - rom_base) / 8) (length rom' / 8)) x [])
          (eight_same rom rom' (p.0 - rom_base) f (g (leb-true _ _ t)))

  -- and so does a read
  pub read_same : read ram rom p ≡ read ram' rom' p
  unfolding read
  read_same = rw (part_same, e, f)

-- RAM and ROM of an accepted length have nothing at 2^36 or above
pub part_beyond : (ram rom : List ℕ) (p : PAddr) → length ram ≤ 16777216 → length rom ≤ 4194304 → 2 ^ 36 ≤ p.0 → part ram rom p ≡ []
unfolding part
part_beyond ram rom p h g l =
    rw (
      le-ltb (p.0 / 8) (length ram / 8) (omega arith),
      le-leb rom_base p.0 (omega arith),
      le-ltb ((p.0 - rom_base) / 8) (length rom / 8) (omega arith),
    )
