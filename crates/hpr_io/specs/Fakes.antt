-- The shelf and the sink in memory, as contracts see them. Calls are numbered from 0.
--
-- stands_in n numbers             == whether n is one of the numbers
--
-- ShelfState                      == a shelf: its files, the numbers of the calls that are to fail, how many
--                                    calls it had and how many of them failed
-- shelf_at_start files failing    == a shelf that had no call
-- fetch_fails shelf name          == whether the next fetch fails: it is to fail, or no file has the name
-- after_fetch shelf name          == the shelf after the next fetch: one call more, and one failure more
--                                    where it fails
--
-- SinkState                       == a sink: the bytes taken, the most of one call, the most in all, the
--                                    numbers of the calls that are to fail, how many calls it had and how
--                                    many of them failed
-- sink_at_start step room failing == a sink that had no call
-- room_left sink                  == how many more bytes it has room for
-- put_fails sink piece            == whether the next put fails: it is to fail, or there are bytes and room
--                                    for none
-- put_count sink piece            == how many bytes the next put takes where it does not fail
-- after_put sink piece            == the sink after the next put: one call more, and the bytes taken or one
--                                    failure more
use Rattle.std.specs.Prelude.{ℕ, ◌-◌, min, Bool, ◌||◌, ◌&&◌, ◌==◌, nat_lt, if◌then◌else◌, List, [], ◌++◌, length, take, is_none}
use Rattle.std.specs.List.{list_any}
use Rattle.hpr_io.specs.Counts.{one_more}
use Rattle.hpr_io.specs.Files.{Files, lookup}

abbrev pub stands_in : ℕ → List ℕ → Bool
stands_in n numbers = list_any (λ m. m == n) numbers

pub record ShelfState : Type 0 where
  pub files : Files
  pub failing : List ℕ
  pub calls : ℕ
  pub faults : ℕ

abbrev pub shelf_at_start : Files → List ℕ → ShelfState
shelf_at_start files failing = record { files = files; failing = failing; calls = 0; faults = 0 }

abbrev pub fetch_fails : ShelfState → List ℕ → Bool
fetch_fails shelf name = stands_in shelf.calls shelf.failing || is_none (lookup shelf.files name)

abbrev pub after_fetch : ShelfState → List ℕ → ShelfState
after_fetch shelf name = record shelf {
  calls = one_more shelf.calls;
  faults = if fetch_fails shelf name then one_more shelf.faults else shelf.faults;
}

pub record SinkState : Type 0 where
  pub taken : List ℕ
  pub step : ℕ
  pub room : ℕ
  pub failing : List ℕ
  pub calls : ℕ
  pub faults : ℕ

abbrev pub sink_at_start : ℕ → ℕ → List ℕ → SinkState
sink_at_start step room failing = record { taken = []; step = step; room = room; failing = failing; calls = 0; faults = 0 }

abbrev pub room_left : SinkState → ℕ
room_left sink = sink.room - length sink.taken

abbrev pub put_fails : SinkState → List ℕ → Bool
put_fails sink piece = stands_in sink.calls sink.failing || (nat_lt 0 (length piece) && (room_left sink == 0))

abbrev pub put_count : SinkState → List ℕ → ℕ
put_count sink piece = min (min (length piece) sink.step) (room_left sink)

abbrev pub after_put : SinkState → List ℕ → SinkState
after_put sink piece = record sink {
  taken = if put_fails sink piece then sink.taken else sink.taken ++ take (put_count sink piece) piece;
  calls = one_more sink.calls;
  faults = if put_fails sink piece then one_more sink.faults else sink.faults;
}
