-- What a printed program means, and its graph; and of which slice it is what is left.
use Rattle.std.proofs.Common.{◌≡◌, ◌∙◌, ℕ, suc, true, false, List, [], ◌∷◌, length, refl, sym, ap, subst, inl, inr, arith}
use Rattle.hpr_io.specs.Files.{Files, bytes_of}
use Rattle.hpr_syntax.specs.Tree.{Tree}
use Rattle.hpr_syntax.specs.Shape.{IsProgram}
use Rattle.hpr_syntax.specs.Grammar.{tagged}
use Rattle.hpr_syntax.specs.Spelling.{Spells}
use Rattle.hpr_syntax.specs.Print.{text}
use Rattle.hpr_syntax.proofs.TextSpells.{text_spells}
use Rattle.hpr_text.proofs.Texts.{one_tree}
use Rattle.hpr_graph.specs.declared.edge.Edge.{Edge}
use Rattle.hpr_graph.specs.declared.vertex.Vertex.{Vertex}
use Rattle.hpr_graph.specs.Answer.{interference, printed, no_program, spent, IsAnswerBy, graphs_of}
use Rattle.hpr_graph.specs.Conflicts.{told_as}
use Rattle.hpr_meaning.specs.KeptLaw.{KeepsAll}
use Rattle.hpr_meaning.proofs.Own.{keeps_two}
use Rattle.hpr_engine.proofs.OneAnswer.{printed_fits_by}
use Rattle.hpr_engine.proofs.PrintedKeeps.{printed_keeps_by, split_kept_two, triples_tell}
use Rattle.hpr_report.specs.ConflictsText.{conflicts_text}
use Rattle.hpr_verify.specs.declared.verdict.Verdict.TheVariants as verdict
use Rattle.hpr_words.specs.Request.{Request, Text, integrate, integrate_many, slice, verify}
use Rattle.hpr_graph.specs.ProgramGraph.{graph_of}
use Rattle.hpr_graph.specs.Slices.{slice_of}
use Rattle.hpr_inputs.specs.Decision.{Prints, prints, refuses}
use Rattle.hpr_inputs.specs.Points.{IsPoint, OnPoints}
use Rattle.hpr_inputs.specs.ReadsAll.{AreAllFilesOf}
use Rattle.hpr_inputs.proofs.AllFiles.{are_programs}
use Rattle.hpr_decisions.specs.Integrate.{IsReportedBy, OutcomeBy}
use Rattle.hpr_decisions.specs.IntegrateMany.{Told, told_text}
use Rattle.hpr_decisions.specs.VerifyFiles.{IsVerified}
use Rattle.hpr_decisions.specs.VerifyKeeps.{AreFourFiles, HasVerified, IsVerifiedFile}
use Rattle.hpr_decisions.proofs.Unrefused.{past_all_graphs, past_file, past_files, past_graph, past_many}
use Rattle.hpr_refusals.specs.Refusals.{IsFileOf}
use Rattle.hpr_decisions.specs.Outcome.{RequestOutcome}
use Rattle.hpr_decisions.specs.Theorem.{IsManyMergedText, IsMergedText, KeepsAllMeaning, KeepsMeaning}
use Rattle.hpr_merge.proofs.NoneListed.{TellsEach, none_told, sides_tell}
use Rattle.hpr_decisions.specs.MergedText.{HasMergedGraph, PrintsMerged}
use Rattle.hpr_decisions.specs.LeftText.{IsLeftOf, PrintsLeft}
use Rattle.hpr_decisions.specs.SliceFile.{IsSliceShown, SliceOutcome}
use Rattle.hpr_inputs.specs.declared.answer.Kind.TheVariants as kind

-- what is so of these three programs is so of whatever the bytes spell
pub of_spelled : (base a b : List ℕ) (p q r : Tree) → IsFileOf base p → IsFileOf a q → IsFileOf b r → (P : Tree → Tree → Tree → Type 0) → P p q r
    → (p' q' r' : Tree) → Spells tagged base p' → Spells tagged a q' → Spells tagged b r' → P p' q' r'
of_spelled base a b p q r hp hq hr P k p' q' r' sp sq sr =
    let ep : p ≡ p' = one_tree tagged base p p' hp.spelled sp in
    let eq : q ≡ q' = one_tree tagged a q q' hq.spelled sq in
    let er : r ≡ r' = one_tree tagged b r r' hr.spelled sr in
    subst (λ (x : Tree). P p' q' x) er (subst (λ (x : Tree). P p' x r) eq (subst (λ (x : Tree). P x q r) ep k))

pub printed_spelled : (m : Tree) (bytes : List ℕ) → IsProgram m → bytes ≡ text m → Spells tagged bytes m
printed_spelled m bytes is_m e = subst (λ (x : List ℕ). Spells tagged x m) (sym e) (text_spells m is_m)

as_many_graphs : (fs : Files) (names : List Text) (ps : List Tree) → AreAllFilesOf fs names ps → length (graphs_of ps) ≡ length names
as_many_graphs fs [] [] are = refl
as_many_graphs fs [] (p ∷ ps) are = absurd are
as_many_graphs fs (n ∷ ns) [] are = absurd are
as_many_graphs fs (n ∷ ns) (p ∷ ps) are = ap suc (as_many_graphs fs ns ps are.1)

-- what an integration prints, where `at` tells each conflict's variant, point and edge, and tells each that there is
module _ {X : Type 0} (at : X → ℕ × Vertex × Edge) (say : List X → List ℕ) (fs : Files) (base : Text) (names : List Text) (tells : TellsEach at (length names)) (tries : ℕ) (bytes : List ℕ)
    (o : OutcomeBy at say fs base names tries (prints kind.Done bytes)) where
  abbrev PrintsOf : Tree → List Tree → Tree → Type 0
  PrintsOf p ps m = IsAnswerBy at p ps tries (printed m) × (bytes ≡ text m)

  printed_by : (p : Tree) (ps : List Tree) → IsReportedBy at say p ps tries (prints kind.Done bytes) → (m : Tree) × PrintsOf p ps m
  printed_by p ps (interference ts, answer, e) = absurd cc
  printed_by p ps (printed m, answer, e) = (m, (answer, cc))
  printed_by p ps (no_program n, answer, e) = absurd cc
  printed_by p ps (spent, answer, e) = absurd cc

  printed_of : (p : Tree) × (ps : List Tree) × IsFileOf (bytes_of fs base) p × AreAllFilesOf fs names ps × ((m : Tree) × PrintsOf p ps m)
  printed_of =
      let (p, ps, base_is, variants_are, few, reported) =
      past_many fs (prints kind.Done bytes) (λ message e. cc) base names (λ p ps. IsReportedBy at say p ps tries (prints kind.Done bytes)) o in
      (p, ps, base_is, variants_are, printed_by p ps reported)

  each_told : (ps : List Tree) → AreAllFilesOf fs names ps → TellsEach at (length (graphs_of ps))
  each_told ps are = subst (TellsEach at) (sym (as_many_graphs fs names ps are)) tells

  keeps_by : IsManyMergedText fs base names bytes
  keeps_by =
      let (p, ps, base_is, variants_are, (m, (answer, e))) = printed_of in
      let is_m = (printed_fits_by at p ps tries m answer).0 in
      record {
        base_program = p;
        variant_programs = ps;
        base_is = base_is;
        variants_are = variants_are;
        printed = m;
        program = is_m;
        spelled = printed_spelled m bytes is_m e;
        keeps = printed_keeps_by at p ps (each_told ps variants_are) tries m base_is.program (are_programs fs names ps variants_are) answer;
      }

  fits_by : HasMergedGraph fs base names bytes
  fits_by =
      let (p, ps, base_is, variants_are, (m, (answer, e))) = printed_of in
      let (is_m, (rs, split, fits)) = printed_fits_by at p ps tries m answer in
      record {
        base_program = p;
        variant_programs = ps;
        base_is = base_is;
        variants_are = variants_are;
        printed = m;
        program = is_m;
        spelled = printed_spelled m bytes is_m e;
        free = none_told at (graph_of p) (graphs_of ps) (each_told ps variants_are) answer.0;
        renamed = rs;
        split_off = split;
        fits = fits;
      }

-- two programs keep what all of a list keep
of_two : (fs : Files) (base a b : Text) (bytes : List ℕ) (ps : List Tree) (p m : Tree) → IsFileOf (bytes_of fs base) p → AreAllFilesOf fs (a ∷ b ∷ []) ps → IsProgram m → Spells tagged bytes m
    → KeepsAll p ps m → IsMergedText (bytes_of fs base) (bytes_of fs a) (bytes_of fs b) bytes
of_two fs base a b bytes [] p m base_is are is_m spelled keeps = absurd are
of_two fs base a b bytes (q ∷ []) p m base_is are is_m spelled keeps = absurd are.1
of_two fs base a b bytes (q ∷ r ∷ []) p m base_is are is_m spelled keeps = record {
  base_program = p;
  a_program = q;
  b_program = r;
  base_is = base_is;
  a_is = are.0;
  b_is = are.1.0;
  printed = m;
  program = is_m;
  spelled = spelled;
  keeps = keeps_two p q r m keeps;
}
of_two fs base a b bytes (q ∷ r ∷ s ∷ ps) p m base_is are is_m spelled keeps = absurd are.1.1

two_keep : (fs : Files) (base a b : Text) (bytes : List ℕ) → IsManyMergedText fs base (a ∷ b ∷ []) bytes → IsMergedText (bytes_of fs base) (bytes_of fs a) (bytes_of fs b) bytes
two_keep fs base a b bytes t = of_two fs base a b bytes t.variant_programs t.base_program t.printed t.base_is t.variants_are t.program t.spelled t.keeps

triples : (names : List Text) → TellsEach {X = Told} (λ t. t) (length names)
triples names = triples_tell (length names)

pub request_keeps : (request : Request) (fs : Files) (bytes : List ℕ) → RequestOutcome request fs (prints kind.Done bytes) → KeepsMeaning request fs bytes
request_keeps (integrate base a b tries) fs bytes h = two_keep fs base a b bytes (keeps_by told_as conflicts_text fs base (a ∷ b ∷ []) sides_tell tries bytes h)
request_keeps _ fs bytes h = tt

pub request_keeps_all : (request : Request) (fs : Files) (bytes : List ℕ) → RequestOutcome request fs (prints kind.Done bytes) → KeepsAllMeaning request fs bytes
request_keeps_all (integrate_many base variants tries) fs bytes h = keeps_by {X = Told} (λ t. t) told_text fs base variants (triples variants) tries bytes h
request_keeps_all _ fs bytes h = tt

pub request_fits : (request : Request) (fs : Files) (bytes : List ℕ) → RequestOutcome request fs (prints kind.Done bytes) → PrintsMerged request fs bytes
request_fits (integrate base a b tries) fs bytes h = fits_by told_as conflicts_text fs base (a ∷ b ∷ []) sides_tell tries bytes h
request_fits (integrate_many base variants tries) fs bytes h = fits_by {X = Told} (λ t. t) told_text fs base variants (triples variants) tries bytes h
request_fits _ fs bytes h = tt

-- what is left of a program, where a slice is printed so
module _ (fs : Files) (file : Text) (points : List Text) (bytes : List ℕ) where
  past_points : (p : Tree) → IsFileOf (bytes_of fs file) p
      → OnPoints (graph_of p) points (Prints (IsSliceShown true p (slice_of (graph_of p) (IsPoint points))) (prints kind.Done bytes)) (prints kind.Done bytes)
      → IsLeftOf (bytes_of fs file) points bytes
  past_points p hp (inl (word, first, same)) = absurd cc
  past_points p hp (inr (named, (shown, (q, left, is), same))) =
      let one : bytes ≡ shown = cc in record { whole = p; file_is = hp; named = named; left = q; pruned = left; printed = one ∙ is }

  left_so : SliceOutcome fs file points true (prints kind.Done bytes) → IsLeftOf (bytes_of fs file) points bytes
  left_so (inl (message, refused, same)) = absurd cc
  left_so (inr (p, hp, o)) = past_points p hp (past_graph fs (prints kind.Done bytes) (λ message e. cc) file p _ o).1

pub request_left : (request : Request) (fs : Files) (bytes : List ℕ) → RequestOutcome request fs (prints kind.Done bytes) → PrintsLeft request fs bytes
request_left (slice file points true) fs bytes h = left_so fs file points bytes h
request_left (slice file points false) fs bytes h = tt
request_left _ fs bytes h = tt

-- an offered program that is verified
verified_so : (base a b m : Text) (fs : Files) (bytes : List ℕ) (p q r o : Tree) → AreFourFiles (bytes_of fs base) (bytes_of fs a) (bytes_of fs b) (bytes_of fs m) p q r o
    → IsVerified p q r o (prints kind.Done bytes) → IsVerifiedFile (bytes_of fs base) (bytes_of fs a) (bytes_of fs b) (bytes_of fs m)
verified_so base a b m fs bytes p q r o files (verdict.Same, (free, (rs, split, fits)), e) = record {
  p = p;
  q = q;
  r = r;
  o = o;
  files = files;
  merged = (free, (rs, split, fits));
  keeps = split_kept_two p q r o rs files.base_is.program files.a_is.program files.b_is.program files.m_is.program free split fits;
}
verified_so base a b m fs bytes p q r o files (verdict.Conflict c, judged, e) = absurd cc
verified_so base a b m fs bytes p q r o files (verdict.Vertex v h, judged, e) = absurd cc
verified_so base a b m fs bytes p q r o files (verdict.Edge f h, judged, e) = absurd cc

pub request_verified : (request : Request) (fs : Files) (bytes : List ℕ) → RequestOutcome request fs (prints kind.Done bytes) → HasVerified request fs
request_verified (verify base a b m) fs bytes h =
    let d = prints kind.Done bytes in
    let unrefused : (message : List ℕ) → d ≡ refuses message → ⊥ = λ message e. cc in
    let (p, q, r, base_is, a_is, b_is, on_m) = past_files fs d unrefused base a b _ h in
    let (o, m_is, on_graphs) = past_file fs d unrefused m _ on_m in
    let (few, judged) =
    past_all_graphs fs d unrefused (base ∷ a ∷ b ∷ m ∷ []) (p ∷ q ∷ r ∷ o ∷ []) (IsVerified p q r o d) (omega arith) on_graphs in
    verified_so base a b m fs bytes p q r o (record { base_is = base_is; a_is = a_is; b_is = b_is; m_is = m_is }) judged
request_verified _ fs bytes h = tt
