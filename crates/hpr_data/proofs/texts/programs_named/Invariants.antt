use Rattle.std.proofs.Common.{◌≡◌, ◌≤◌, length, take}
use Rattle.hpr_io.specs.Files.{files_in}
use Rattle.hpr_data.specs.Private.Comes.{AreAllTexts}
use Rattle.hpr_data.proofs.TextLemmas.{named}
use Rattle.hpr_data.proofs.texts.programs_named.Given as goal

abbrev pub invariant-loop-name : goal.invariant-loop-name
invariant-loop-name l = record {
  read : AreAllTexts (files_in l.files) (take l.name-index (named l.names)) l.programs.items;
  count : length l.programs.items ≡ l.name-index;
  within : l.name-index ≤ length l.names;
}
