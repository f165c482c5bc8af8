-- The invariant: what is left to put, put, gives what the whole would.
use Rattle.std.proofs.Common.{◌≡◌, ◌+◌, ◌-◌, ◌≤◌, length}
use Rattle.std.proofs.lemmas.List.Edits.{sets}
use Rattle.memory.specs.Bytes.{bytes_of}
use Rattle.memory.proofs.stores.put.Given as goal

abbrev pub invariant-loop-k : goal.invariant-loop-k
invariant-loop-k l = record {
  within : l.k ≤ l.s.size;
  long : length l.ram ≡ length l.initial.ram;
  left : sets l.ram (l.s.to.0 + l.k) (bytes_of (l.s.size - l.k) l.s.value) ≡ sets l.initial.ram l.s.to.0 (bytes_of l.s.size l.s.value);
}
