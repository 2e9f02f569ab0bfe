use Rattle.std.proofs.Common.{◌≡◌, ◌+◌, ◌≤◌, drop}
use Rattle.std.specs.List.{prefix_len}
use Rattle.hpr_kit.specs.Shown.{stays}
use Rattle.hpr_kit.specs.declared.place.TheConstants.{ROOM}
use Rattle.hpr_kit.proofs.place.front_len.Given as goal

abbrev pub invariant-loop-place : goal.invariant-loop-place
invariant-loop-place l = record {
  few : l.place ≤ ROOM;
  count : prefix_len stays l.bytes ≡ l.place + prefix_len stays (drop l.place l.bytes);
}
