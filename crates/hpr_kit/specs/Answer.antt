-- What a call answers.
--
-- Rewrite                           == the name of a file, the bytes that it had, and those that it is to get
-- Answer                            == a call's status, what `out` and `err` are to take, and which file is
--                                      to get which bytes, if one is
-- prints bytes                      == the command did what it is for, and prints these bytes
-- rewrites file had bytes           == it did what it is for, and gives the file, which had others, these bytes
-- denies message                    == the answer is no, and the message says why
-- refuses message                   == something is refused, and the message says why
-- place_if_any file bytes why       == the place of bytes that spell no tree; else nothing
-- refused_text file bytes why       == the message on a file with these bytes that is refused: hpr's own
--                                      line, and of bytes that spell no tree the place
-- differs_text file bytes canonical == the message on bytes that aren't the canonical text, with the first
--                                      byte at which they differ
-- beyond_text file n count          == the message on a byte n that a file of so many bytes doesn't have
-- spent_text file                   == the message on a file for whose parts an author has too few serials
-- help_text, version_text, usage_text, cannot_read file, cannot_write, cannot_rewrite file, no_memory
--                                   == the other texts
use Rattle.std.specs.Prelude.{ℕ, ◌==◌, List, [], ◌++◌, None, Option, Some, codes}
use Rattle.std.specs.Fmt.{decimal}
use Rattle.std.specs.List.{common_prefix_len}
use Rattle.hpr_refusals.specs.Reasons.{about, refusal_text}
use Rattle.hpr_refusals.specs.declared.files.Refusal.{Refusal}
use Rattle.hpr_refusals.specs.declared.files.Refusal.TheVariants as refusal
use Rattle.hpr_kit.specs.Shown.{place_text}
use Rattle.hpr_kit.specs.declared.status.Status.{Status}
use Rattle.hpr_kit.specs.declared.status.Status.TheVariants as status

pub record Rewrite : Type 0 where
  pub file : List ℕ
  pub had : List ℕ
  pub bytes : List ℕ

pub record Answer : Type 0 where
  pub status : Status
  pub out : List ℕ
  pub err : List ℕ
  pub rewrite : Option Rewrite

abbrev pub prints : List ℕ → Answer
prints bytes = record { status = status.Done; out = bytes; err = []; rewrite = None }

abbrev pub rewrites : List ℕ → List ℕ → List ℕ → Answer
rewrites file had bytes = record {
  status = status.Done;
  out = [];
  err = [];
  rewrite = Some (record { file = file; had = had; bytes = bytes });
}

abbrev pub denies : List ℕ → Answer
denies message = record { status = status.No; out = []; err = message; rewrite = None }

abbrev pub refuses : List ℕ → Answer
refuses message = record { status = status.Refused; out = []; err = message; rewrite = None }

abbrev pub place_if_any : List ℕ → List ℕ → Refusal → List ℕ
place_if_any file bytes (refusal.Syntax n) = place_text file bytes n
place_if_any file bytes refusal.Longer = []
place_if_any file bytes (refusal.Shape error) = []

abbrev pub refused_text : List ℕ → List ℕ → Refusal → List ℕ
refused_text file bytes why = refusal_text file why ++ place_if_any file bytes why

abbrev pub differs_text : List ℕ → List ℕ → List ℕ → List ℕ
differs_text file bytes canonical =
    codes "hprkit: " ++ file ++ codes ": not the canonical text\n"
    ++ place_text file bytes (common_prefix_len (λ x y. x == y) bytes canonical)

abbrev pub beyond_text : List ℕ → ℕ → ℕ → List ℕ
beyond_text file n count =
    codes "hprkit: " ++ file ++ codes ": no byte " ++ decimal n ++ codes " in " ++ decimal count ++ codes "\n"

abbrev pub spent_text : List ℕ → List ℕ
spent_text file = about file (codes "serials are spent")

abbrev pub usage_text : List ℕ
usage_text =
    codes "usage: hprkit fmt FILE [--check | --in-place]\n"
    ++ codes "       hprkit at FILE BYTE\n"
    ++ codes "       hprkit tag FILE --author N [--keep]\n"
    ++ codes "       hprkit graph FILE --json\n"
    ++ codes "       hprkit graph FILE --dot [--no-control] [--no-flow] [--no-order]\n"
    ++ codes "       hprkit impact FILE POINT.. [--json | --marks]\n"
    ++ codes "       hprkit affected BASE V\n"
    ++ codes "       hprkit conflicts BASE V1 V2..\n"
    ++ codes "       hprkit merge BASE V1 V2.. [--tries N]\n"
    ++ codes "       hprkit --help\n"
    ++ codes "       hprkit --version\n"

abbrev pub help_text : List ℕ
help_text =
    usage_text
    ++ codes "\n"
    ++ codes "fmt FILE          print the canonical text of the program that FILE spells\n"
    ++ codes "fmt FILE --check  print nothing: status 1 where FILE hasn't the canonical text\n"
    ++ codes "fmt FILE --in-place\n"
    ++ codes "                  put the canonical text into FILE\n"
    ++ codes "at FILE BYTE      print LINE:COLUMN of a byte of FILE, counted from 0\n"
    ++ codes "tag FILE --author N [--keep]\n"
    ++ codes "                  give the parts without a tag the next serials of N, and print\n"
    ++ codes "                  the canonical text, or with --keep FILE's text with these tags\n"
    ++ codes "graph FILE --json print the dependence graph of FILE's program as JSON\n"
    ++ codes "graph FILE --dot  print it for Graphviz, less the kinds of edges that flags name\n"
    ++ codes "impact FILE POINT.. [--json | --marks]\n"
    ++ codes "                  print what a change at these points can reach: one a line, as\n"
    ++ codes "                  JSON, or as FILE's text with marks at the lines it reaches\n"
    ++ codes "affected BASE V   print, as JSON, the affected points of V, and why each is one\n"
    ++ codes "conflicts BASE V1 V2..\n"
    ++ codes "                  print, as JSON, what interferes in their integration: 2 to 16\n"
    ++ codes "                  variants\n"
    ++ codes "merge BASE V1 V2.. [--tries N]\n"
    ++ codes "                  integrate them, and print, as JSON, the program with the graph\n"
    ++ codes "                  that it has, or why there is none\n"
    ++ codes "\n"
    ++ codes "`-` as FILE is standard input.\n"

abbrev pub version_text : List ℕ
version_text = codes "hprkit 1.0.0\n"

abbrev pub cannot_read : List ℕ → List ℕ
cannot_read file = codes "hprkit: cannot read " ++ file ++ codes "\n"

abbrev pub cannot_write : List ℕ
cannot_write = codes "hprkit: cannot write output\n"

abbrev pub cannot_rewrite : List ℕ → List ℕ
cannot_rewrite file = codes "hprkit: cannot write " ++ file ++ codes "\n"

abbrev pub no_memory : List ℕ
no_memory = codes "hprkit: no memory\n"
