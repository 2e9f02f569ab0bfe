-- What each command does.
--
-- asked_by words            == what the words ask for, if they are a call
-- WhereAsked words told P   == P of what the words ask for and of the files that the shelf tells: where they
--                              are a call, and it tells them
-- Took old new P            == from old to new an output took some bytes that have P, where it tells what it
--                              took
-- IsCanonical bytes         == the bytes are the canonical text of the program that they spell
-- Formats ask files printed == `fmt`: printed is the canonical text of the program that the file spells
-- IsChecked bytes s         == the status s is Done only where the bytes are canonical, and there it isn't
--                              No; it isn't Refused where they spell a program; and it is No only where they
--                              spell one in another text
-- Checks ask files s        == `fmt --check`: that is so of the file
-- Places ask files printed  == `at`: the file has so many bytes, and printed is the line and the column
-- renewal file bytes p      == what the file with these bytes is to get for the canonical text of the program
--                              p: that, or nothing where it has it
-- RenewsFile file bytes s w == where the status s is Done, the file with these bytes spells a program, and it
--                              got its renewal; else no file got anything
-- Renews ask files s w      == `fmt --in-place`: that is so of the file; in all other calls no file got
--                              anything
-- Tags ask files printed    == `tag`: with the author's tags the file spells a program, and so does printed
use Rattle.std.specs.Prelude.{◌≡◌, ◌≢◌, ℕ, ◌≤◌, List, ◌++◌, length, map, None, Option, Some, String, string_bytes, codes, if◌then◌else◌}
use Rattle.std.specs.Str.{bytes_eq}
use Rattle.std.specs.Global.{Global}
use Rattle.hpr_io.specs.Files.{Files, bytes_of}
use Rattle.hpr_io.specs.Taken.{taken_then}
use Rattle.hpr_syntax.specs.Print.{text}
use Rattle.hpr_syntax.specs.Tree.{Tree}
use Rattle.hpr_refusals.specs.Refusals.{IsFileOf}
use Rattle.hprkit_words.specs.Ask.{Ask, affected, conflicts, format, graph, help, impact, merge, place, tag, version}
use Rattle.hprkit_words.specs.Taken.{taken}
use Rattle.hprkit_words.specs.declared.forms.FormatForm.TheVariants as form
use Rattle.hpr_words.specs.Request.{Text}
use Rattle.hpr_kit.specs.Answer.{Rewrite}
use Rattle.hpr_kit.specs.Ends.{Kept, Rewriting, Rewrote}
use Rattle.hpr_kit.specs.Shown.{place_of}
use Rattle.hpr_kit.specs.Tags.{IsTagging}
use Rattle.hpr_kit.specs.declared.status.Status.{Status}
use Rattle.hpr_kit.specs.declared.status.Status.TheVariants.{Done, No, Refused}

abbrev pub asked_by : List (String Global) → Option Ask
asked_by words = taken (map string_bytes words)

abbrev pub WhereAsked : List (String Global) → Option Files → (Ask → Files → Type 0) → Type 0
WhereAsked words told P =
    (ask : Ask) (files : Files) → asked_by words ≡ Some ask → told ≡ Some files → P ask files

abbrev pub Took : Option (List ℕ) → Option (List ℕ) → (List ℕ → Type 0) → Type 0
Took old new P = (bytes : List ℕ) × (new ≡ taken_then old bytes) × P bytes

abbrev pub IsCanonical : List ℕ → Type 0
IsCanonical bytes = (p : Tree) × IsFileOf bytes p × (bytes ≡ text p)

abbrev pub Formats : Ask → Files → List ℕ → Type 0
Formats (format file form.Print) files printed =
    (p : Tree) × IsFileOf (bytes_of files file) p × (printed ≡ text p)
Formats (format file form.Check) files printed = Unit {0}
Formats (format file form.InPlace) files printed = Unit {0}
Formats help files printed = Unit {0}
Formats version files printed = Unit {0}
Formats (place file n) files printed = Unit {0}
Formats (tag file author keep) files printed = Unit {0}
Formats (graph file how) files printed = Unit {0}
Formats (impact file points how) files printed = Unit {0}
Formats (affected base variant) files printed = Unit {0}
Formats (conflicts base variants) files printed = Unit {0}
Formats (merge base variants tries) files printed = Unit {0}

pub record IsChecked (bytes : List ℕ) (s : Status) : Type 0 where
  pub done : s ≡ Done → IsCanonical bytes
  pub only : IsCanonical bytes → s ≢ No
  pub spelled : (p : Tree) → IsFileOf bytes p → s ≢ Refused
  pub other : s ≡ No → (p : Tree) × IsFileOf bytes p × (bytes ≢ text p)

abbrev pub Checks : Ask → Files → Status → Type 0
Checks (format file form.Check) files s = IsChecked (bytes_of files file) s
Checks (format file form.Print) files s = Unit {0}
Checks (format file form.InPlace) files s = Unit {0}
Checks help files s = Unit {0}
Checks version files s = Unit {0}
Checks (place file n) files s = Unit {0}
Checks (tag file author keep) files s = Unit {0}
Checks (graph file how) files s = Unit {0}
Checks (impact file points how) files s = Unit {0}
Checks (affected base variant) files s = Unit {0}
Checks (conflicts base variants) files s = Unit {0}
Checks (merge base variants tries) files s = Unit {0}

abbrev pub Places : Ask → Files → List ℕ → Type 0
Places (place file n) files printed =
    (n ≤ length (bytes_of files file)) × (printed ≡ place_of (bytes_of files file) n ++ codes "\n")
Places help files printed = Unit {0}
Places version files printed = Unit {0}
Places (format file how) files printed = Unit {0}
Places (tag file author keep) files printed = Unit {0}
Places (graph file how) files printed = Unit {0}
Places (impact file points how) files printed = Unit {0}
Places (affected base variant) files printed = Unit {0}
Places (conflicts base variants) files printed = Unit {0}
Places (merge base variants tries) files printed = Unit {0}

abbrev pub Tags : Ask → Files → List ℕ → Type 0
Tags (tag file author keep) files printed = IsTagging author keep (bytes_of files file) printed
Tags help files printed = Unit {0}
Tags version files printed = Unit {0}
Tags (format file how) files printed = Unit {0}
Tags (place file n) files printed = Unit {0}
Tags (graph file how) files printed = Unit {0}
Tags (impact file points how) files printed = Unit {0}
Tags (affected base variant) files printed = Unit {0}
Tags (conflicts base variants) files printed = Unit {0}
Tags (merge base variants tries) files printed = Unit {0}

abbrev pub renewal : Text → List ℕ → Tree → Option Rewrite
renewal file bytes p =
    if bytes_eq bytes (text p) then None else Some (record { file = file; had = bytes; bytes = text p })

abbrev pub RenewsFile : Text → List ℕ → Status → Rewriting → Type 0
RenewsFile file bytes s w =
    (s ≡ Done → (p : Tree) × IsFileOf bytes p × Rewrote (renewal file bytes p) w) × (s ≢ Done → Kept w)

abbrev pub Renews : Ask → Files → Status → Rewriting → Type 0
Renews (format file form.InPlace) files s w = RenewsFile file (bytes_of files file) s w
Renews (format file form.Print) files s w = Kept w
Renews (format file form.Check) files s w = Kept w
Renews help files s w = Kept w
Renews version files s w = Kept w
Renews (place file n) files s w = Kept w
Renews (tag file author keep) files s w = Kept w
Renews (graph file how) files s w = Kept w
Renews (impact file points how) files s w = Kept w
Renews (affected base variant) files s w = Kept w
Renews (conflicts base variants) files s w = Kept w
Renews (merge base variants tries) files s w = Kept w
