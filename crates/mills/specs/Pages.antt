-- The pages of a User program, and which of them it may write.
use Rattle.std.specs.Prelude.{ℕ, ◌+◌, ◌*◌, ◌/◌, ◌%◌, ◌<◌, ◌≤◌, ◌≡◌, Bool, true, List, eqb}
use Rattle.elf.specs.declared.Header.{Header}
use Rattle.elf.specs.Header.{count, header, loads}
use Rattle.place.specs.Plan.{stack}

-- page x is one of segment i's: an address of the segment is in it
pub record PageOf (file : List ℕ) (i x : ℕ) : Type 0 where
  pub there : i < count file
  pub loads : loads file (header file i) ≡ true
  pub first : (header file i).vaddr / 4096 ≤ x
  pub last : x * 4096 < (header file i).vaddr + (header file i).memsz

-- a segment may be written: bit 1 of its flags is set
abbrev pub writable : Header → Bool
writable h = eqb (h.flags / 2 % 2) 1

-- a program has page x, to write or not: for a segment with an address in it, or for the stack, which it may write
pub data Page (file : List ℕ) (x : ℕ) (write : Bool) : Type 0 where
  of_segment : (i : ℕ) → PageOf file i x → writable (header file i) ≡ write → Page file x write
  of_stack : x ≡ stack → write ≡ true → Page file x write
