-- What comes of a call.
--
-- checked file bytes canonical == whether the bytes are this canonical text
-- renewed file bytes canonical == the file with these bytes gets the canonical text, unless that is what it
--                                 has
-- formatted form file bytes p  == the canonical text of the program p, printed, compared with the bytes or
--                                 put into the file
-- placed file bytes n          == the line and the column of the byte n; the place behind the last byte has
--                                 them too
-- OnTagged n file bytes next a == a refuses the bytes of this file, as they are or for the serials of the
--                                 author n; or with tags of n they spell a program, and a is what next
--                                 says of it
-- kept_answer file bytes t     == t, the bytes of this file with tags, unless it is too long
-- retold keep file bytes t p   == the canonical text of the program p; or t, the bytes with tags
-- Comes ask files a            == a comes of what is asked over these files; words that are no call ask for
--                                 nothing
-- Names ask file               == the file is named in what is asked
-- MayRead ask told file        == it comes to be read: it is named, and each file that is named before it
--                                 spells a program
use Rattle.std.specs.Prelude.{◌≡◌, ◌⊎◌, ℕ, Bool, true, false, nat_lt, if◌then◌else◌, List, [], ◌∷◌, ◌++◌, Contains, length, Option, Some, None, codes}
use Rattle.std.specs.Str.{bytes_eq}
use Rattle.hpr_io.specs.Files.{Files}
use Rattle.hpr_terms.specs.declared.limits.TheConstants.{MAX_FILE}
use Rattle.hpr_syntax.specs.Print.{text}
use Rattle.hpr_syntax.specs.Tree.{Tree}
use Rattle.hpr_tagging.specs.Tagging.{kept}
use Rattle.hpr_refusals.specs.declared.files.Refusal.{Refusal}
use Rattle.hpr_refusals.specs.declared.files.Refusal.TheVariants.{Longer}
use Rattle.hpr_words.specs.Request.{Text}
use Rattle.hpr_inputs.specs.Reads.{IsReached}
use Rattle.hprkit_words.specs.declared.forms.FormatForm.{FormatForm}
use Rattle.hprkit_words.specs.declared.forms.FormatForm.TheVariants as form
use Rattle.hprkit_words.specs.Ask.{Ask, affected, conflicts, format, graph, help, impact, merge, place, tag, version}
use Rattle.hpr_kit.specs.Answer.{Answer, beyond_text, denies, differs_text, help_text, prints, refused_text, refuses, rewrites, spent_text, usage_text, version_text}
use Rattle.hpr_kit.specs.Reading.{OnProgram, read}
use Rattle.hpr_kit.specs.Graphs.{AreConflictsTold, AreReasonsTold, IsGraphTold, IsImpactTold, OnGraph, OnGraphs, OnPoints}
use Rattle.hpr_kit.specs.Merges.{IsMergeTold}
use Rattle.hpr_kit.specs.Shown.{place_of}
use Rattle.hpr_kit.specs.Sources.{OnSource, OnSources}
use Rattle.hpr_kit.specs.Tags.{IsSpent, IsTagCause, IsTagged}
use Rattle.hpr_kit.specs.declared.status.Status.TheVariants.{Words}

abbrev pub checked : Text → List ℕ → List ℕ → Answer
checked file bytes canonical =
    if bytes_eq bytes canonical then prints [] else denies (differs_text file bytes canonical)

abbrev pub renewed : Text → List ℕ → List ℕ → Answer
renewed file bytes canonical = if bytes_eq bytes canonical then prints [] else rewrites file bytes canonical

abbrev pub formatted : FormatForm → Text → List ℕ → Tree → Answer
formatted form.Print file bytes p = prints (text p)
formatted form.Check file bytes p = checked file bytes (text p)
formatted form.InPlace file bytes p = renewed file bytes (text p)

abbrev pub placed : Text → List ℕ → ℕ → Answer
placed file bytes n =
    if nat_lt MAX_FILE (length bytes) then refuses (refused_text file bytes Longer)
    else (if nat_lt (length bytes) n then refuses (beyond_text file n (length bytes))
    else prints (place_of bytes n ++ codes "\n"))

abbrev pub OnTagged : ℕ → Text → List ℕ → (Tree → Type 0) → Answer → Type 0
OnTagged author file bytes next a =
    ((why : Refusal) × IsTagCause author bytes why × (a ≡ refuses (refused_text file bytes why)))
    ⊎ ((IsSpent author bytes × (a ≡ refuses (spent_text file)))
    ⊎ ((p : Tree) × IsTagged author bytes p × next p))

abbrev pub kept_answer : Text → List ℕ → List ℕ → Answer
kept_answer file bytes t =
    if nat_lt MAX_FILE (length t) then refuses (refused_text file bytes Longer) else prints t

abbrev pub retold : Bool → Text → List ℕ → List ℕ → Tree → Answer
retold false file bytes t p = prints (text p)
retold true file bytes t p = kept_answer file bytes t

abbrev pub Comes : Option Ask → Files → Answer → Type 0
Comes None files a = a ≡ record { status = Words; out = []; err = usage_text; rewrite = None }
Comes (Some help) files a = a ≡ prints help_text
Comes (Some version) files a = a ≡ prints version_text
Comes (Some (format file form)) files a =
    OnProgram file (read files file) (λ p. a ≡ formatted form file (read files file) p) a
Comes (Some (place file n)) files a = a ≡ placed file (read files file) n
Comes (Some (tag file author keep)) files a =
    OnTagged author file (read files file)
    (λ p. a ≡ retold keep file (read files file) (kept author (read files file)) p) a
Comes (Some (graph file form)) files a =
    OnSource files file (λ p s. OnGraph file p (λ g. IsGraphTold form p s g a) a) a
Comes (Some (impact file points form)) files a =
    OnSource files file
    (λ p s. OnGraph file p
    (λ g. OnPoints g points (λ ns. IsImpactTold form g ns (read files file) s a) a) a) a
Comes (Some (affected base variant)) files a =
    OnSource files base
    (λ p r. OnSource files variant
    (λ q s. OnGraph base p (λ h. OnGraph variant q (λ g. AreReasonsTold g h s a) a) a) a) a
Comes (Some (conflicts base variants)) files a =
    OnSources files (base ∷ variants)
    (λ ps ss. OnGraphs (base ∷ variants) ps (λ gs. AreConflictsTold gs ss a) a) a
Comes (Some (merge base variants tries)) files a =
    OnSources files (base ∷ variants)
    (λ ps ss. OnGraphs (base ∷ variants) ps (λ gs. IsMergeTold ps tries ss a) a) a

abbrev pub Names : Option Ask → Text → Type 0
Names (Some (format named form)) file = file ≡ named
Names (Some (place named n)) file = file ≡ named
Names (Some (tag named author keep)) file = file ≡ named
Names (Some help) file = ⊥
Names (Some version) file = ⊥
Names None file = ⊥
Names (Some (graph named form)) file = file ≡ named
Names (Some (impact named points form)) file = file ≡ named
Names (Some (affected base variant)) file = (file ≡ base) ⊎ (file ≡ variant)
Names (Some (conflicts base variants)) file = Contains (base ∷ variants) file
Names (Some (merge base variants tries)) file = Contains (base ∷ variants) file

abbrev pub MayRead : Option Ask → Option Files → Text → Type 0
MayRead (Some (affected base variant)) told = IsReached told (base ∷ variant ∷ [])
MayRead (Some (conflicts base variants)) told = IsReached told (base ∷ variants)
MayRead (Some (merge base variants tries)) told = IsReached told (base ∷ variants)
MayRead asked told = Names asked
