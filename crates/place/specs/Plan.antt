-- Which page of RAM each page of a program gets, and its slot and half of the TLB.
use Rattle.std.specs.Prelude.{ℕ, zero, suc, ◌+◌, ◌*◌, ◌/◌, ◌%◌, Bool, true, List, Option, Some, None, max, eqb, ltb, get_or, set, replicate}
use Rattle.std.specs.Option.{option_or}
use Rattle.promise.specs.Pick.{pick}
use Rattle.card.specs.Machine.{fresh}
use Rattle.elf.specs.declared.Pages.{Pages}
use Rattle.elf.specs.declared.Space.TheVariants.{User, Kernel}
use Rattle.elf.specs.Header.{count}
use Rattle.elf.specs.Pages.{pages_at}
use Rattle.place.specs.declared.Owner.{Owner}

-- the pages of RAM
abbrev pub ram_pages : ℕ
ram_pages = 16

-- what is taken: slots and pages of RAM; the first program for which there was no page; the TLB; and of each page of RAM whose it is
pub record Plan : Type 0 where
  pub used : ℕ
  pub next : ℕ
  pub full : Option ℕ
  pub tlb : List ℕ
  pub pages : List (Option Owner)

-- EntryHi of a page's pair under an ASID: never global (L21)
abbrev pub key : ℕ → ℕ → ℕ
key asid page = page / 2 * 8192 + asid

-- whose a page of RAM is: the program's page, and its ASID
abbrev pub owner : ℕ → ℕ → Owner
owner asid page = record { page = page; asid = asid }

-- where in the TLB a page's half of slot i stands
abbrev pub lo_at : ℕ → ℕ → ℕ
lo_at i page = i * 4 + 2 + page % 2

-- EntryLo of a page of RAM: valid, dirty if it is writable, C 0 (L21)
unfoldable pub lo_of : ℕ → Bool → ℕ
lo_of next writable = next * 64 + pick writable 6 2

-- EntryLo with D set as well, if the page is now writable (L20)
unfoldable pub granted : ℕ → Bool → ℕ
granted lo writable = pick writable (lo / 8 * 8 + 6) lo

-- the first slot with this EntryHi, of `left` from slot i on; one past them where there is none (L21)
unfoldable pub find : List ℕ → ℕ → ℕ → ℕ → ℕ
find tlb hi zero i = i
find tlb hi (suc left) i = pick (eqb (get_or tlb (i * 4 + 1) 0) hi) i (find tlb hi left (i + 1))

-- the slots used, once slot i is
unfoldable pub more : ℕ → ℕ → ℕ
more used i = pick (eqb i used) (i + 1) used

-- the first program that finds no page of RAM is kept in mind (L24)
abbrev pub first_full : Option ℕ → ℕ → Option ℕ
first_full full asid = option_or full (Some asid)

-- the next page of RAM is taken, and slot i is the page's pair's (L20, L21)
unfoldable pub taken : Plan → ℕ → ℕ → Bool → ℕ → Plan
taken p asid page writable i =
    record {
      used = more p.used i;
      next = p.next + 1;
      full = p.full;
      tlb = set (set p.tlb (i * 4 + 1) (key asid page)) (lo_at i page) (lo_of p.next writable);
      pages = set p.pages p.next (Some (owner asid page));
    }

-- there is no page of RAM left (L24)
unfoldable pub crowded : Plan → ℕ → Plan
crowded p asid = record p { full = first_full p.full asid }

-- the program has the page: in slot i
unfoldable pub again : Plan → ℕ → Bool → ℕ → Plan
again p page writable i = record p { tlb = set p.tlb (lo_at i page) (granted (get_or p.tlb (lo_at i page) 0) writable) }

-- a page whose pair's slot is i (L20)
unfoldable pub add_at : Plan → ℕ → ℕ → Bool → ℕ → Plan
add_at p asid page writable i =
    pick (eqb (get_or p.tlb (lo_at i page) 0) 0)
    (pick (ltb p.next ram_pages) (taken p asid page writable i) (crowded p asid))
    (again p page writable i)

-- a page of a program (L20)
unfoldable pub add : Plan → ℕ → ℕ → Bool → Plan
add p asid page writable = add_at p asid page writable (find p.tlb (key asid page) p.used 0)

-- n pages in order
unfoldable pub add_run : Plan → ℕ → ℕ → Bool → ℕ → Plan
add_run p asid page writable zero = p
add_run p asid page writable (suc n) = add_run (add p asid page writable) asid (page + 1) writable n

-- the pages of a segment
abbrev pub add_pages : Plan → ℕ → Pages → Plan
add_pages p asid g = add_run p asid g.first g.writable g.count

-- the pages of header i (L20)
unfoldable pub add_segment : Plan → ℕ → List ℕ → ℕ → Plan
add_segment p asid file i = add_pages p asid (pages_at User file i)

-- the pages of `left` headers from header i on (L20)
unfoldable pub add_segments : Plan → ℕ → List ℕ → ℕ → ℕ → Plan
add_segments p asid file zero i = p
add_segments p asid file (suc left) i = add_segments (add_segment p asid file i) asid file left (i + 1)

-- of all headers (L20)
abbrev pub add_all : Plan → ℕ → List ℕ → Plan
add_all p asid file = add_segments p asid file (count file) 0

-- the stack's page (L20)
abbrev pub stack : ℕ
stack = 0x7ffff

-- a program's pages, and its stack's (L20)
unfoldable pub add_program : Plan → ℕ → List ℕ → Plan
add_program p asid file = add (add_all p asid file) asid stack true

-- `left` programs from program k on; program k has ASID k (L20)
unfoldable pub add_programs : Plan → (ℕ → List ℕ) → ℕ → ℕ → Plan
add_programs p file zero k = p
add_programs p file (suc left) k = add_programs (add_program p k (file k)) file left (k + 1)

-- where a segment's pages end; 0 where there are none
abbrev pub top_of_pages : Pages → ℕ
top_of_pages g = pick (eqb g.count 0) 0 (g.first + g.count)

-- of header i of a kernel
unfoldable pub top_of : List ℕ → ℕ → ℕ
top_of file i = top_of_pages (pages_at Kernel file i)

-- the kernel's pages: up to the last that a segment touches, of `left` headers from header i on, at least `top` (L19)
unfoldable pub top_from : List ℕ → ℕ → ℕ → ℕ → ℕ
top_from file zero i top = top
top_from file (suc left) i top = top_from file left (i + 1) (max top (top_of file i))

unfoldable pub kernel_pages : List ℕ → ℕ
kernel_pages file = top_from file (count file) 0 0

-- a kernel's pages are taken, and nothing else
unfoldable pub begun : ℕ → Plan
begun kernel = record { used = 0; next = kernel; full = None; tlb = fresh.tlb; pages = replicate ram_pages None }

-- the plan of a kernel and n programs (L19 to L21)
unfoldable pub plan_of : (ℕ → List ℕ) → ℕ → Plan
plan_of file n = add_programs (begun (kernel_pages (file 0))) file n 1
