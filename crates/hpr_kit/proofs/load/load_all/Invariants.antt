use Rattle.std.proofs.Common.{◌≡◌, ◌≤◌, ℕ, List, IfSome, length, map, take}
use Rattle.hpr_located.specs.Sources.{standing_of}
use Rattle.hpr_kit.specs.Private.Loads.{AreLoaded}
use Rattle.hpr_kit.proofs.LoadLemmas.{names}
use Rattle.hpr_kit.proofs.load.load_all.Given as goal

abbrev pub invariant-loop-file : goal.invariant-loop-file
invariant-loop-file g l = record {
  loaded : IfSome (g.S.Shelf.files l.fn.shelf) (λ fs. AreLoaded fs (take l.file-index (names l.files)) l.programs.items (map standing_of l.sources.items));
  programs : length l.programs.items ≡ l.file-index;
  sources : length l.sources.items ≡ l.file-index;
  within : l.file-index ≤ length l.files;
  same_files : g.S.Shelf.files l.shelf ≡ g.S.Shelf.files l.fn.shelf;
  same_names : (n : List ℕ) → g.S.Shelf.serves l.shelf n ≡ g.S.Shelf.serves l.fn.shelf n;
  same_count : g.S.Shelf.faults l.shelf ≡ g.S.Shelf.faults l.fn.shelf;
}
