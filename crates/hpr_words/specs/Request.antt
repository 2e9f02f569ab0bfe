-- What the words of a command line ask for.
--
-- Text                    == the bytes of a word
-- integrate base a b n    == integrate the variants a and b with their base, within n tries
-- integrate_many base variants n == integrate three variants or more with their base, within n tries
-- run file states n trace == run the program of a file from the state that the words tell, for at most n
--                            steps, and show its trace or not
-- graph file json         == show the graph of the program of a file, as JSON or as text
-- slice file points program == show the slice of the graph of the program of a file for the points that the
--                              words tell, as the program that is left of it or as a graph
-- affected base a         == show the affected points of the variant a of base
-- trial base a b states n == run base, its variants a and b and their integration from the state that the
--                            words tell, the first three for at most n steps each
-- edit file script n      == apply the commands of a script to the program of a file, as the author of the
--                            number n
-- tag file n              == tag the untagged program of a file, as the author of the number n
-- sample seed parts       == make the programs of the seed, the base of so many parts, and integrate them
-- verify base a b offered == judge the merged program of the file offered by base and its variants a and b
-- IsInRange request       == its tries or steps, if it has some, are from 1 to 1,000,000,000, its author, if
--                            it has one, is from 1 to 4,294,967,295, its seed, if it has one, is below 2 ^
--                            64, its parts, if it has some, are from 1 to two below the limit of a program,
--                            its points, if it asks for some, are at least one, and its variants, if it lists
--                            them, are from three to the limit of variants
use Rattle.std.specs.Prelude.{◌≤◌, ◌<◌, ◌+◌, ◌^◌, ℕ, Bool, List, length}
use Rattle.hpr_terms.specs.declared.limits.TheConstants.{MAX_PARTS, MAX_STEPS, MAX_TAG_NUMBER, MAX_TRIES, MAX_VARIANTS}

abbrev pub Text : Type 0
Text = List ℕ

pub data Request : Type 0 where
  integrate : (base a b : Text) (tries : ℕ) → Request
  integrate_many : (base : Text) (variants : List Text) (tries : ℕ) → Request
  run : (file : Text) (states : List Text) (steps : ℕ) (trace : Bool) → Request
  graph : (file : Text) (json : Bool) → Request
  slice : (file : Text) (points : List Text) (program : Bool) → Request
  affected : (base a : Text) → Request
  trial : (base a b : Text) (states : List Text) (steps : ℕ) → Request
  edit : (file script : Text) (author : ℕ) → Request
  tag : (file : Text) (author : ℕ) → Request
  sample : (seed parts : ℕ) → Request
  verify : (base a b offered : Text) → Request

abbrev pub IsInRange : Request → Type 0
IsInRange (integrate base a b tries) = (1 ≤ tries) × (tries ≤ MAX_TRIES)
IsInRange (integrate_many base variants tries) = (3 ≤ length variants) × (length variants ≤ MAX_VARIANTS) × (1 ≤ tries) × (tries ≤ MAX_TRIES)
IsInRange (run file states steps trace) = (1 ≤ steps) × (steps ≤ MAX_STEPS)
IsInRange (slice file points program) = 1 ≤ length points
IsInRange (trial base a b states steps) = (1 ≤ steps) × (steps ≤ MAX_STEPS)
IsInRange (edit file script author) = (1 ≤ author) × (author ≤ MAX_TAG_NUMBER)
IsInRange (tag file author) = (1 ≤ author) × (author ≤ MAX_TAG_NUMBER)
IsInRange (sample seed parts) = (seed < 2 ^ 64) × (1 ≤ parts) × (parts + 2 ≤ MAX_PARTS)
IsInRange _ = Unit {0}
