-- The turns of the loops over headers, sections, symbols and names: what is left gives what the whole gives.
use Prim.Native.Nat.{ℕ, zero, suc, ◌+◌, ◌-◌, ◌*◌, ◌<◌, ◌≤◌}
use mathlib.Core.Bool.{Bool, true, false}
use mathlib.Core.Path.{◌≡◌, refl, ap, ◌∙◌}
use mathlib.Core.List.{List, [], ◌∷◌}
use native.Mathlib.Omega.{arith}
use lib.Dec.{eqb}
use Rattle.promise.specs.Pick.{pick}
use Rattle.elf.specs.declared.Section.{Section}
use Rattle.elf.specs.declared.Space.{Space}
use Rattle.std.specs.Prelude.{Option, Some, None}
use Rattle.std.specs.Option.{option_map}
use Rattle.std.specs.List.{fold, find, list_all, enumerate_from, range_with_len}
use Rattle.elf.proofs.Search.{found_some, found_none}
use Rattle.elf.specs.Bytes.{byte, word}
use Rattle.elf.specs.Header.{header, raised, reach_from}
use Rattle.elf.specs.Home.{home, covers, byte_of, stands_from}
use Rattle.elf.specs.Faults.{none, or, header_fault, segments_fault}
use Rattle.elf.specs.Symbol.{section, same_from, is_symbol, symbol_from, symbol_by, symbol_of}

-- of n, from i on, one is left, or none
pub one_more : {A : Type 0} (f : ℕ → A) (n i : ℕ) → i < n → f (n - i) ≡ f (suc (n - (i + 1)))
one_more f n i h = ap f (let e : n - i ≡ suc (n - (i + 1)) = omega arith in e)

pub no_more : {A : Type 0} (f : ℕ → A) (n i : ℕ) → n ≤ i → f (n - i) ≡ f 0
no_more f n i h = ap f (let e : n - i ≡ 0 = omega arith in e)

-- the section and the symbol that is found first, of n
module _ (file : List ℕ) (n : ℕ) (r : Option ℕ) where
  module _ (name : List ℕ) (e : option_map (λ (x : ℕ). x) r ≡ find (λ (i : ℕ). eqb (section file i).kind 2) (range_with_len 0 n)) where
    pub section_some : (x : ℕ) → r ≡ Some x → symbol_by file (section file x) name ≡ symbol_of file name n 0
    unfolding symbol_of
    section_some = found_some (λ (i : ℕ). eqb (section file i).kind 2) (λ (i : ℕ). symbol_by file (section file i) name) None (symbol_of file name) (λ k. refl) (λ left k. refl) n 0 r e

    pub section_none : r ≡ None → None ≡ symbol_of file name n 0
    unfolding symbol_of
    section_none = found_none (λ (i : ℕ). eqb (section file i).kind 2) (λ (i : ℕ). symbol_by file (section file i) name) None (symbol_of file name) (λ k. refl) (λ left k. refl) n 0 r e

  module _ (names : Section) (name : List ℕ) (from : ℕ) (e : option_map (λ (x : ℕ). x) r ≡ find (λ (j : ℕ). is_symbol file names name (from + 16 * j)) (range_with_len 0 n)) where
    abbrev SymbolFrom : ℕ → ℕ → Option ℕ
    SymbolFrom left j = symbol_from file names name left (from + 16 * j)

    next : (left j : ℕ) → SymbolFrom (suc left) j ≡ pick (is_symbol file names name (from + 16 * j)) (Some (word file (from + 16 * j + 4))) (SymbolFrom left (j + 1))
    unfolding symbol_from
    next left j = let e : from + 16 * j + 16 ≡ from + 16 * (j + 1) = omega arith in rw e refl

    start : SymbolFrom n 0 ≡ symbol_from file names name n from
    start = let e : from + 16 * 0 ≡ from = omega arith in ap (symbol_from file names name n) e

    pub symbol_some : (x : ℕ) → r ≡ Some x → Some (word file (from + 16 * x + 4)) ≡ symbol_from file names name n from
    unfolding symbol_from
    symbol_some x q = found_some (λ (j : ℕ). is_symbol file names name (from + 16 * j)) (λ (j : ℕ). Some (word file (from + 16 * j + 4))) None SymbolFrom (λ k. refl) next n 0 r e x q ∙ start

    pub symbol_none : r ≡ None → None ≡ symbol_from file names name n from
    unfolding symbol_from
    symbol_none q = found_none (λ (j : ℕ). is_symbol file names name (from + 16 * j)) (λ (j : ℕ). Some (word file (from + 16 * j + 4))) None SymbolFrom (λ k. refl) next n 0 r e q ∙ start

-- the headers from i on, of n
module _ (file : List ℕ) (n i : ℕ) where
  module _ (space : Space) where
    pub segments_turn : i < n → segments_fault space file (n - i) i ≡ or (header_fault space file i) (segments_fault space file (n - (i + 1)) (i + 1))
    unfolding segments_fault
    segments_turn h = one_more (λ (k : ℕ). segments_fault space file k i) n i h

    pub segments_done : n ≤ i → segments_fault space file (n - i) i ≡ none
    unfolding segments_fault
    segments_done h = no_more (λ (k : ℕ). segments_fault space file k i) n i h

    pub stands_turn : (a : ℕ) → i < n → stands_from space file a (n - i) i ≡ pick (covers space file (header file i) a) (byte_of file (header file i) (home space (header file i).vaddr) a) (stands_from space file a (n - (i + 1)) (i + 1))
    unfolding stands_from
    stands_turn a h = one_more (λ (k : ℕ). stands_from space file a k i) n i h

    pub stands_done : (a : ℕ) → n ≤ i → stands_from space file a (n - i) i ≡ 0
    unfolding stands_from
    stands_done a h = no_more (λ (k : ℕ). stands_from space file a k i) n i h

-- what notes reach, as a fold over the headers
pub reach_is : (file : List ℕ) (left i far : ℕ) → fold (λ (r k : ℕ). raised (header file k) r) far (range_with_len i left) ≡ reach_from file left i far
unfolding reach_from
reach_is file zero i far = refl
reach_is file (suc left) i far = reach_is file left (i + 1) (raised (header file i) far)

-- whether bytes are these, as a test of each with its number
pub same_is : (file : List ℕ) (at : ℕ) (name : List ℕ) (k : ℕ) → list_all (λ (p : ℕ × ℕ). eqb (byte file (at + p.0)) p.1) (enumerate_from k name) ≡ same_from file (at + k) name
unfolding same_from
same_is file at [] k = refl
same_is file at (x ∷ name) k = go (same_is file at name (k + 1)) (eqb (byte file (at + k)) x) refl
  where
    e : at + (k + 1) ≡ at + k + 1
    e = omega arith

    go : list_all (λ (p : ℕ × ℕ). eqb (byte file (at + p.0)) p.1) (enumerate_from (k + 1) name) ≡ same_from file (at + (k + 1)) name → (b : Bool) → eqb (byte file (at + k)) x ≡ b → list_all (λ (p : ℕ × ℕ). eqb (byte file (at + p.0)) p.1) (enumerate_from k (x ∷ name)) ≡ same_from file (at + k) (x ∷ name)
    go rest true h = simp h (rest ∙ ap (λ (n : ℕ). same_from file n name) e)
    go rest false h = simp h
