-- What is promised of an image of programs, mill A's, mill B's, ..: the first runs in User mode, each has its own pages, and in them what its file says.
use Rattle.std.specs.Prelude.{ℕ, ◌+◌, ◌/◌, ◌^◌, ◌<◌, ◌≤◌, ◌≡◌, Bool, true, false, List, Option, Some, None, Ok, length, get_or, take}
use Rattle.tlb.specs.declared.Half.{Half}
use Rattle.tlb.specs.declared.Where.TheVariants.{Mapped}
use Rattle.tlb.specs.Translate.{vaddr, paddr, mapped}
use Rattle.card.specs.declared.Machine.{Machine}
use Rattle.card.specs.Run.{rom_fits, lines_fit}
use Rattle.elf.specs.declared.Space.TheVariants.{User, Kernel}
use Rattle.elf.specs.Header.{count, header, loads}
use Rattle.elf.specs.Home.{physical, stands, byte_of}
use Rattle.elf.specs.Faults as E
use Rattle.elf.specs.Faults.{file_fault}
use Rattle.image.specs.Image.{image_of, ram_after}
use Rattle.place.specs.declared.Owner.{Owner}
use Rattle.place.specs.Plan.{kernel_pages, plan_of}
use Rattle.place.specs.Made.{blank, text_of, made_of, out_after, zeros}
use Rattle.isolation.specs.Reach.{Reached}
use Rattle.isolation.specs.Isolation.{UserWorld, asid}
use Rattle.mills.specs.Pages.{Page}

-- program a is one of n
pub record Mill (n a : ℕ) : Type 0 where
  pub some : 1 ≤ a
  pub most : a ≤ n

-- an image was made of a kernel and 1 to 255 programs: nothing was refused, and the text is so long
pub record Image (file : ℕ → List ℕ) (n : ℕ) (settings : List ℕ) : Type 0 where
  pub some : 1 ≤ n
  pub few : n ≤ 255
  pub long : ℕ
  pub made : made_of file n settings ≡ Ok long

-- the ASID of an owner; 0 for nobody
abbrev pub owner_asid : Option Owner → ℕ
owner_asid None = 0
owner_asid (Some o) = o.asid

module _ (file : ℕ → List ℕ) (n : ℕ) (settings : List ℕ) where
  -- the machine that the card's reader makes of its text, and the RAM
  abbrev pub machine : Machine
  machine = (image_of (text_of file n settings) zeros).machine

  abbrev pub ram : List ℕ
  ram = ram_after (text_of file n settings) zeros

  -- it runs in User mode with CU0 clear under ASID 1, from a User address; the card accepts it with any boot ROM and interrupt lines that it accepts at all; the kernel has something to load, and code at both vectors; and this text is what is printed
  pub record Starts : Type 0 where
    pub read : (image_of (text_of file n settings) zeros).refusal ≡ None
    pub accepted : (rom : List ℕ) (lines : ℕ) → rom_fits (length rom) ≡ true → lines_fit lines ≡ true → UserWorld (record { machine = machine; ram = ram; rom = rom; lines = lines })
    pub first : asid machine ≡ 1
    pub from : machine.cpu.pc < 2 ^ 31
    pub kernel : file_fault Kernel (file 0) ≡ E.none
    pub refill : blank (file 0) 0 ≡ false
    pub general : blank (file 0) 0x180 ≡ false
    pub printed : (out : List ℕ) → length out ≡ 65536 → (long : ℕ) → made_of file n settings ≡ Ok long → take long (out_after file n settings out) ≡ text_of file n settings

  -- the ASID of the program whose page g of RAM is; 0 for the kernel's pages and for nobody's
  abbrev pub owner_of : ℕ → ℕ
  owner_of g = owner_asid (get_or (plan_of file n).pages g None)

  -- every page that a program reaches is its own, after the kernel's, in RAM; so no two programs reach one page, and none reaches a page of the kernel's, which has all of its segments there
  pub record Apart : Type 0 where
    pub own : (a p : ℕ) → Mill n a → Reached machine.tlb a p → owner_of (p / 4096) ≡ a
    pub after_kernel : (a p : ℕ) → Mill n a → Reached machine.tlb a p → kernel_pages (file 0) ≤ p / 4096
    pub kernel_inside : (i p : ℕ) → i < count (file 0) → loads (file 0) (header (file 0) i) ≡ true → physical (header (file 0) i).vaddr ≤ p → p < physical (header (file 0) i).vaddr + (header (file 0) i).memsz → p / 4096 < kernel_pages (file 0)
    pub kernels : (g : ℕ) → g < kernel_pages (file 0) → owner_of g ≡ 0
    pub in_ram : (a p : ℕ) → Mill n a → Reached machine.tlb a p → p < 65536
    pub alone : (a b p q : ℕ) → Mill n a → Mill n b → Reached machine.tlb a p → Reached machine.tlb b q → p / 4096 ≡ q / 4096 → a ≡ b

  -- where an address leads, and so that it may be stored to if `write`
  pub record Somewhere (a v : ℕ) (write : Bool) : Type 0 where
    pub place : ℕ
    pub half : Half
    pub leads : mapped machine.tlb a (vaddr v) ≡ Mapped (paddr place) half
    pub dirty : write ≡ true → half.dirty ≡ true

  -- at each User address that leads anywhere stands what the program's file says: a segment's byte, or 0 in its tail, or 0 where no segment is; and the page is one that it has, so writable; and every page that it has is there
  pub record Holds : Type 0 where
    pub holds : (a v p : ℕ) (half : Half) → Mill n a → v < 2 ^ 31 → mapped machine.tlb a (vaddr v) ≡ Mapped (paddr p) half → get_or ram p 0 ≡ stands User (file a) v
    pub segment : (a i v p : ℕ) (half : Half) → Mill n a → i < count (file a) → loads (file a) (header (file a) i) ≡ true → (header (file a) i).vaddr ≤ v → v < (header (file a) i).vaddr + (header (file a) i).memsz → mapped machine.tlb a (vaddr v) ≡ Mapped (paddr p) half → get_or ram p 0 ≡ byte_of (file a) (header (file a) i) (header (file a) i).vaddr v
    pub elsewhere : (a v p : ℕ) (half : Half) → Mill n a → v < 2 ^ 31 → ((i : ℕ) → i < count (file a) → loads (file a) (header (file a) i) ≡ true → (header (file a) i).vaddr ≤ v → v < (header (file a) i).vaddr + (header (file a) i).memsz → ⊥) → mapped machine.tlb a (vaddr v) ≡ Mapped (paddr p) half → get_or ram p 0 ≡ 0
    pub only : (a v p : ℕ) (half : Half) → Mill n a → v < 2 ^ 31 → mapped machine.tlb a (vaddr v) ≡ Mapped (paddr p) half → Page (file a) (v / 4096) half.dirty
    pub all : (a v : ℕ) (write : Bool) → Mill n a → v < 2 ^ 31 → Page (file a) (v / 4096) write → Somewhere a v write
    pub kernel : (p : ℕ) → p / 4096 < kernel_pages (file 0) → p < 65536 → get_or ram p 0 ≡ stands Kernel (file 0) p

-- all of it, of every image
pub record Promise (file : ℕ → List ℕ) (n : ℕ) (settings : List ℕ) : Type 0 where
  pub starts : Starts file n settings
  pub apart : Apart file n settings
  pub holds : Holds file n settings

abbrev pub Mills : Type 0
Mills = (file : ℕ → List ℕ) (n : ℕ) (settings : List ℕ) → Image file n settings → Promise file n settings
