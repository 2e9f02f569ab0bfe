-- What the words of a call ask for.
--
-- help              == the commands
-- version           == the version
-- format file form  == the canonical text of the program of a file, to be printed, compared with the file or
--                      put into it
-- place file byte   == the line and the column of a byte of a file
-- tag file n keep   == a file's text with the next serials of the author n on the parts without a tag, as it
--                      was written; or the canonical text of its program
-- graph file form   == the dependence graph of the program of a file
-- impact file points form == what a change at these points of the program of a file can reach
-- affected base variant   == the affected points of a variant, each with its reason
-- conflicts base variants == what interferes in an integration of these variants
-- merge base variants n == the integration of these variants, within n tries
-- IsInRange ask     == its variants, if it lists some, are from two to their limit, and its tries, if it has
--                      some, from 1 to theirs
use Rattle.std.specs.Prelude.{ℕ, ◌≤◌, Bool, List, length}
use Rattle.hpr_terms.specs.declared.limits.TheConstants.{MAX_TRIES, MAX_VARIANTS}
use Rattle.hpr_words.specs.Request.{Text}
use Rattle.hprkit_words.specs.declared.forms.FormatForm.{FormatForm}
use Rattle.hprkit_words.specs.declared.forms.GraphForm.{GraphForm}
use Rattle.hprkit_words.specs.declared.forms.ImpactForm.{ImpactForm}

pub data Ask : Type 0 where
  help : Ask
  version : Ask
  format : (file : Text) (form : FormatForm) → Ask
  place : (file : Text) (byte : ℕ) → Ask
  tag : (file : Text) (author : ℕ) (keep : Bool) → Ask
  graph : (file : Text) (form : GraphForm) → Ask
  impact : (file : Text) (points : List Text) (form : ImpactForm) → Ask
  affected : (base variant : Text) → Ask
  conflicts : (base : Text) (variants : List Text) → Ask
  merge : (base : Text) (variants : List Text) (tries : ℕ) → Ask

abbrev pub IsInRange : Ask → Type 0
IsInRange (conflicts base variants) = (2 ≤ length variants) × (length variants ≤ MAX_VARIANTS)
IsInRange (merge base variants tries) =
    (2 ≤ length variants) × (length variants ≤ MAX_VARIANTS) × (1 ≤ tries) × (tries ≤ MAX_TRIES)
IsInRange _ = Unit {0}
