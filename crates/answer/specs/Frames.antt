-- Frames as they are printed: a tag, fields of digits, and LF.
use Rattle.std.specs.Prelude.{ℕ, zero, suc, ◌+◌, ◌*◌, ◌^◌, ◌<◌, ◌≡◌, Bool, Option, Some, None, option_map, List, [], ◌∷◌, ◌++◌, eqb, ltb, get_or}
use Rattle.promise.specs.Pick.{pick}
use Rattle.frame.specs.Line.{LF}
use Rattle.frame.specs.Frame.{HI, LO}
use Rattle.frame.specs.declared.Frame.{Frame}
use Rattle.frame.specs.declared.Frame.TheVariants.{Register, Memory, Budget, Cp0, Slot}
use Rattle.memory.specs.declared.Eight.{Eight}
use Rattle.memory.specs.declared.Eight.TheVariants.{Ram, Rom}
use Rattle.memory.specs.Memory.{read}
use Rattle.tlb.specs.declared.Slot as entry
use Rattle.tlb.specs.Slot.{slot, read_slot}
use Rattle.cp0.specs.declared.Cp0 as cp0
use Rattle.cp0.specs.Registers.{kept?}
use Rattle.cp0.specs.Moves.{move_out}
use Rattle.effect.specs.declared.Cpu.{Cpu}
use Rattle.card.specs.declared.Machine.{Machine}
use Rattle.answer.specs.Digits.{hex_of}

-- numbers, each of so many digits, one after the other, and LF (I1)
abbrev pub fields_text : List (ℕ × ℕ) → List ℕ
fields_text [] = LF ∷ []
fields_text (f ∷ fs) = hex_of f.0 f.1 ++ fields_text fs

-- a frame of two fields: its tag (2 digits), the fields, each of so many digits, and LF (I1)
abbrev pub frame : ℕ → ℕ → ℕ → ℕ → ℕ → List ℕ
frame tag n x k y = fields_text ((2, tag) ∷ (n, x) ∷ (k, y) ∷ [])

-- `0f`: the stop's number, and the counted steps (I13)
abbrev pub stop_frame : ℕ → ℕ → List ℕ
stop_frame stop steps = frame 0x0f 2 stop 8 steps

-- `0e`: a refusal's number and its line (I14)
abbrev pub refusal_frame : ℕ → ℕ → List ℕ
refusal_frame number line = frame 0x0e 2 number 8 line

-- `01`: a register's number and its value (I3, I13)
abbrev pub register_frame : ℕ → ℕ → List ℕ
register_frame number value = frame 0x01 2 number 16 value

-- `04`: a CP0 register's number and its value (I6)
abbrev pub cp0_frame : ℕ → ℕ → List ℕ
cp0_frame number value = frame 0x04 2 number 16 value

-- a flag as a number
abbrev pub flag : Bool → ℕ
flag b = pick b 1 0

-- `0a`: whether a slot is pending, its target, and the link bit (house)
abbrev pub pending_frame : Cpu → List ℕ
pending_frame c = fields_text ((2, 0x0a) ∷ (2, flag c.slot) ∷ (16, c.target) ∷ (2, flag c.link) ∷ [])

-- `05`: a slot's number, PageMask, EntryHi, EntryLo0 and EntryLo1 (I8)
abbrev pub slot_frame : ℕ → entry.Slot → List ℕ
slot_frame i s = fields_text ((2, 0x05) ∷ (2, i) ∷ (8, s.mask) ∷ (8, s.hi) ∷ (8, s.lo0) ∷ (8, s.lo1) ∷ [])

-- what frame `01` of this number holds (I4)
abbrev pub register : Cpu → List ℕ → ℕ → ℕ
register c regs i = pick (ltb i HI) (get_or regs i 0) (pick (eqb i HI) c.hi (pick (eqb i LO) c.lo c.pc))

-- a frame as it is printed, where there is one (I1, I3, I5, I6, I8, I9)
abbrev pub printed : Option Frame → List ℕ
printed None = []
printed (Some (Register number value)) = register_frame number value
printed (Some (Memory address value)) = frame 0x02 8 address 16 value
printed (Some (Budget n)) = fields_text ((2, 0x03) ∷ (8, n) ∷ [])
printed (Some (Cp0 number value)) = cp0_frame number value
printed (Some (Slot i mask hi lo0 lo1)) = slot_frame i (slot mask hi lo0 lo1)

-- a frame only where its value is not zero (I13)
abbrev pub non_zero : Frame → ℕ → Option Frame
non_zero f value = pick (eqb value 0) None (Some f)

-- frame `01` of this number, and the same only where the register is not zero (I13)
abbrev pub register_line : Machine → ℕ → Option Frame
register_line m i = Some (Register i (register m.cpu m.regs i))

abbrev pub non_zero_line : Machine → ℕ → Option Frame
non_zero_line m i = non_zero (Register i (register m.cpu m.regs i)) (register m.cpu m.regs i)

-- a CP0 register's frame, where it is kept: the value as a doubleword move gives it, Cause without the lines (house; T11, T15)
abbrev pub kept_line : cp0.Cp0 → ℕ → Option Frame
kept_line c i = pick (kept? i) (Some (Cp0 i (move_out c 0 i))) None

-- a slot's frame, as TLBR gives it (house; T7)
abbrev pub slot_line : List ℕ → ℕ → Option Frame
slot_line tlb i = option_map (λ (s : entry.Slot). Slot i s.mask s.hi s.lo0 s.lo1) (read_slot tlb i)

-- the number that eight bytes of RAM are; 0 where RAM has none
abbrev pub of_ram : Option Eight → ℕ
of_ram (Some (Ram x)) = x
of_ram (Some (Rom x)) = 0
of_ram None = 0

-- frame `02` of doubleword i of RAM, only where it is not zero (house)
abbrev pub memory_line : List ℕ → ℕ → Option Frame
memory_line ram i = let value : ℕ = of_ram (read ram [] (record { 0 = i * 8 })) in non_zero (Memory (i * 8) value) value

-- n lines one after the other, from line i on
unfoldable pub each : (ℕ → Option Frame) → ℕ → ℕ → List ℕ
each f zero i = []
each f (suc n) i = printed (f i) ++ each f n (i + 1)

-- the same of lines that are told of one by one
unfoldable pub IsEach : (ℕ → Option Frame → Type 0) → ℕ → ℕ → List ℕ → Type 0
IsEach L zero i text = text ≡ []
IsEach L (suc n) i text = (f : Option Frame) × (rest : List ℕ) × (i < 2 ^ 16) × L i f × (text ≡ printed f ++ rest) × IsEach L n (i + 1) rest
