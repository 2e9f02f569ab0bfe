use Rattle.std.proofs.Common.{◌≡◌, ◌++◌, drop, flat_map, string_bytes}
use Rattle.hpr_decisions.specs.TraceText.{comma_turn}
use Rattle.hpr_app.proofs.trace_text.put_turns.Given as goal

abbrev pub invariant-loop-turn : goal.invariant-loop-turn
invariant-loop-turn l = string_bytes l.text ++ flat_map comma_turn (drop l.turn-index l.turns) ≡ string_bytes l.initial.text ++ flat_map comma_turn l.turns
