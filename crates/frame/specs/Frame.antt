-- Which frame a line is: its tag, its length, and its fields one after the other.
use Rattle.std.specs.Prelude.{ℕ, Bool, List, Option, Some, None, eqb, length}
use Rattle.promise.specs.Pick.{pick, both}
use Rattle.frame.specs.declared.Frame.{Frame}
use Rattle.frame.specs.declared.Frame.TheVariants.{Register, Memory, Budget, Cp0, Slot}
use Rattle.frame.specs.Digits.{all_hex, number}

-- the numbers of HI, LO and PC in frame `01`, after the registers 00 to 1f (I4)
abbrev pub HI : ℕ
HI = 0x20

abbrev pub LO : ℕ
LO = 0x21

abbrev pub PC : ℕ
PC = 0x22

-- a line of so many digits that starts with a tag
abbrev pub tagged : List ℕ → ℕ → ℕ → Bool
tagged line tag digits = both (eqb (length line) digits) (eqb (number line 0 2) tag)

-- of a line of digits: `01` number (2) value (16), `02` address (8) bytes (16), `03` budget (8), `04` number (2) value (16), `05` slot (2), PageMask, EntryHi, EntryLo0, EntryLo1 (8 each); no other tag or length (I1, I3, I5, I6, I8, I9)
unfoldable pub framed : List ℕ → Option Frame
framed line =
    pick (tagged line 0x01 20) (Some (Register (number line 2 2) (number line 4 16)))
    (pick (tagged line 0x02 26) (Some (Memory (number line 2 8) (number line 10 16)))
    (pick (tagged line 0x03 10) (Some (Budget (number line 2 8)))
    (pick (tagged line 0x04 20) (Some (Cp0 (number line 2 2) (number line 4 16)))
    (pick (tagged line 0x05 36) (Some (Slot (number line 2 2) (number line 4 8) (number line 12 8) (number line 20 8) (number line 28 8)))
    None))))

-- the frame that a line is; a line with any other character is none (I1, N7)
unfoldable pub frame_of : List ℕ → Option Frame
frame_of line = pick (all_hex line) (framed line) None
