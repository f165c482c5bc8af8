-- The text of an image that places a RAM and a TLB, and then has settings of its own; the line for a refusal of one, and for a symbol's value.
use Rattle.std.specs.Prelude.{ℕ, Bool, true, false, List, [], ◌∷◌, ◌++◌}
use Rattle.frame.specs.Frame.{PC}
use Rattle.answer.specs.Frames.{fields_text, cp0_frame, register_frame, slot_line, memory_line, each}

-- Status, and PC; for a User program User mode, ASID 1 and the stack pointer as well (L22)
unfoldable pub preset_text : Bool → ℕ → List ℕ
preset_text true pc = cp0_frame 12 0x10 ++ cp0_frame 10 1 ++ register_frame 29 0x7ffffff0 ++ register_frame PC pc
preset_text false pc = cp0_frame 12 0 ++ register_frame PC pc

-- the RAM that is not zero, so many slots, the preset, the settings (L22)
unfoldable pub placed_text : List ℕ → List ℕ → ℕ → Bool → ℕ → List ℕ → List ℕ
placed_text tlb ram used user pc settings =
    each (memory_line ram) 8192 0 ++ each (slot_line tlb) used 0 ++ preset_text user pc ++ settings

-- `0d`: why there is no image: a refusal's number, a file's number, and what it is about (L3)
abbrev pub reason_text : ℕ → ℕ → ℕ → List ℕ
reason_text number file about = fields_text ((2, 0x0d) ∷ (2, number) ∷ (2, file) ∷ (8, about) ∷ [])

-- a word as eight digits (L1)
abbrev pub word_text : ℕ → List ℕ
word_text value = fields_text ((8, value) ∷ [])
