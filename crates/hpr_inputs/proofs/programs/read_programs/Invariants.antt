use Rattle.std.proofs.Common.{◌≡◌, ◌≤◌, ℕ, List, length}
use Rattle.hpr_inputs.proofs.AllFiles.{Read}
use Rattle.hpr_inputs.proofs.programs.read_programs.Given as goal

abbrev pub invariant-loop-file : goal.invariant-loop-file
invariant-loop-file g l = record {
  read : Read (g.S.Shelf.files l.fn.shelf) l.files l.file-index l.programs.items;
  count : length l.programs.items ≡ l.file-index;
  within : l.file-index ≤ length l.files;
  same_files : g.S.Shelf.files l.shelf ≡ g.S.Shelf.files l.fn.shelf;
  same_names : (n : List ℕ) → g.S.Shelf.serves l.shelf n ≡ g.S.Shelf.serves l.fn.shelf n;
  same_count : g.S.Shelf.faults l.shelf ≡ g.S.Shelf.faults l.fn.shelf;
}
