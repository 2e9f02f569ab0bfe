-- What bytes spell, by where they lead the machine.
use Rattle.std.proofs.Common.{◌≡◌, ℕ, ◌+◌, ◌≤◌, ◌<◌, ◌^◌, min, List, length, Bool, true, false, cond, nat_lt, Some, None, refl, ap, sym, subst, ◌∙◌, arith}
use Rattle.std.proofs.lemmas.Bool.{ltb-true, ltb-false}
use Rattle.hpr_terms.specs.declared.limits.TheConstants.{MAX_PARTS}
use Rattle.hpr_terms.specs.declared.token.Token.{Token}
use Rattle.hpr_terms.proofs.Facts.{some_inj}
use Rattle.hpr_syntax.specs.declared.shape.ShapeError.{ShapeError}
use Rattle.hpr_syntax.specs.declared.shape.ShapeError.TheVariants.{TooManyParts}
use Rattle.hpr_syntax.specs.Tree.{Tree}
use Rattle.hpr_syntax.specs.Grammar.{Form, SpellsProgram, tagged, untagged}
use Rattle.hpr_syntax.specs.Shape.{shape}
use Rattle.hpr_syntax.specs.Spelling.{Spells}
use Rattle.hpr_scan.specs.Place.{IsPlace, Accepts}
use Rattle.hpr_scan.specs.Steps.{IsReading}
use Rattle.hpr_scan.proofs.Place.{same_place}
use Rattle.hpr_text.specs.declared.form.Mode.{Mode}
use Rattle.hpr_text.specs.declared.form.Mode.TheVariants.{Tagged, Untagged}
use Rattle.hpr_text.specs.declared.found.Found.{Found}
use Rattle.hpr_text.specs.declared.state.Place.{Place}
use Rattle.hpr_text.specs.declared.state.Place.TheVariants.{AfterSerial, AfterColon, AfterTarget, InIndex, AfterIndex, InExpression, AtEnd}
use Rattle.hpr_text.specs.declared.state.State.{State}
use Rattle.hpr_text.specs.Answers.{IsText}
use Rattle.hpr_text.specs.Forms.{form_of}
use Rattle.hpr_text.specs.Machine.{limit, next, initially, tree_of, shape_of, accepted_at, accepted, ends_at, may_end}
use Rattle.hpr_text.specs.Laws.{is_token_machine}
use Rattle.hpr_text.proofs.Parts.{tally}
use Rattle.hpr_text.proofs.Sound.{IsCounted, found_spelled}
use Rattle.hpr_text.proofs.Whole.{spelled_state, spelled_runs, spelled_accepted, spelled_ends}
use Rattle.hpr_text.proofs.Kept.{most, bare_place, Kept, begin_kept, kept_runs, kept_runs_back}
use Rattle.hpr_text.proofs.Lengths.{text_counts}
use Rattle.hpr_text.proofs.Named.{Named, text_named}
use Rattle.hpr_text.proofs.Numbered.{many_parts}
use Rattle.hpr_text.proofs.Once.{text_once}

-- ---- one tree

one_in : (m : Mode) (bytes : List ℕ) (t u : Tree) → Spells (form_of m) bytes t → Spells (form_of m) bytes u → t ≡ u
one_in m bytes t u h k =
    let same : spelled_state m h.tokens t h.program ≡ spelled_state m k.tokens u k.program =
    text_once (next None) (is_token_machine None) (initially m) bytes h.tokens k.tokens _ _ h.text (spelled_runs m h.tokens t h.program) k.text (spelled_runs m k.tokens u k.program) in
    some_inj t u (sym (spelled_accepted m h.tokens t h.program) ∙ ap accepted same ∙ spelled_accepted m k.tokens u k.program)

pub one_tree : (form : Form) (bytes : List ℕ) (t u : Tree) → Spells form bytes t → Spells form bytes u → t ≡ u
one_tree tagged bytes t u h k = one_in Tagged bytes t u h k
one_tree (untagged a) bytes t u h k = one_in (Untagged a) bytes t u h k

-- ---- the end, where parts may not be kept

bare_ends : (p : Place) → ends_at (bare_place p) ≡ ends_at p
bare_ends (AfterSerial t) = refl
bare_ends (AfterColon t) = refl
bare_ends (AfterTarget t x) = refl
bare_ends (InIndex t a r) = refl
bare_ends (AfterIndex t a i k) = refl
bare_ends (InExpression p r) = refl
bare_ends p = refl

kept_ends : (n k : State) → Kept n k → may_end n ≡ may_end k
kept_ends n k h = sym (bare_ends n.place) ∙ ap (λ (s : State). ends_at s.place) h.shows ∙ bare_ends k.place

ended_at : (f : Found) (p : Place) → ends_at p ≡ true → accepted_at f p ≡ Some (tree_of f)
ended_at f AtEnd e = refl
ended_at f p e = absurd cc

-- ---- places

accepts_text : (m : Mode) (bytes : List ℕ) → Accepts (next limit) may_end (initially m) bytes → IsText (form_of m) bytes
accepts_text m bytes a =
    let n = kept_runs_back (initially m) (initially m) a.tokens a.last (begin_kept (initially m)) a.leads in
    let t : Tree = tree_of n.0.found in
    let ends : may_end n.0 ≡ true = kept_ends n.0 a.last n.2 ∙ a.ends in
    (t, record { tokens = a.tokens; text = a.text; program = (found_spelled m a.tokens n.0 t n.1 (ended_at n.0.found n.0.place ends)).0 })

text_accepts : (m : Mode) (bytes : List ℕ) → IsText (form_of m) bytes → Accepts (next limit) may_end (initially m) bytes
text_accepts m bytes (t, h) =
    let n : State = spelled_state m h.tokens t h.program in
    let k = kept_runs (initially m) (initially m) h.tokens n (begin_kept (initially m)) (spelled_runs m h.tokens t h.program) in
    record { tokens = h.tokens; last = k.0; text = h.text; leads = k.1; ends = sym (kept_ends n k.0 k.2) ∙ spelled_ends m h.tokens t h.program }

pub place_of_text : (m : Mode) (bytes : List ℕ) (n : ℕ) → IsPlace (Accepts (next limit) may_end (initially m)) bytes n → IsPlace (IsText (form_of m)) bytes n
place_of_text m bytes n h = same_place (Accepts (next limit) may_end (initially m)) (IsText (form_of m)) (accepts_text m) (text_accepts m) bytes n h

-- ---- trees

-- the tree of the bytes, by the state to which they lead
pub record TreeIs (m : Mode) (bytes : List ℕ) (k : State) : Type 0 where
  pub tree : Tree
  pub spelled : Spells (form_of m) bytes tree
  pub few : k.found.count ≤ MAX_PARTS → tree ≡ tree_of k.found
  pub many : MAX_PARTS < k.found.count → shape tree ≡ Some (TooManyParts k.found.count)

many_is : (m : Mode) (ts : List Token) (t : Tree) (n : ℕ) (h : SpellsProgram (form_of m) ts t) → Named ts → n ≡ tally m h.count → MAX_PARTS < n → shape t ≡ Some (TooManyParts n)
many_is Tagged ts t n h names e lt = absurd (omega (arith, e, lt))
many_is (Untagged a) ts t n h names e lt = many_parts a ts t h names (subst (λ (k : ℕ). MAX_PARTS < k) e lt) ∙ ap (λ (k : ℕ). Some (TooManyParts k)) (sym e)

-- fewer parts than 2 ^ 63 are counted exactly
exact : (n k : State) → Kept n k → n.found.count < 2 ^ 63 → k.found.count ≡ n.found.count
exact n k h lt =
    let same : min n.found.count most ≡ min k.found.count most = ap (λ (s : State). s.found.count) h.shows in
    omega (arith, same, lt)

pub reading_is : (m : Mode) (bytes : List ℕ) (k : State) → length bytes < 2 ^ 63 → IsReading (next limit) (initially m) bytes k → may_end k ≡ true → TreeIs m bytes k
reading_is m bytes k short r e =
    let n = kept_runs_back (initially m) (initially m) r.tokens k (begin_kept (initially m)) r.leads in
    let t : Tree = tree_of n.0.found in
    let h : IsCounted m r.tokens n.0.found t = found_spelled m r.tokens n.0 t n.1 (ended_at n.0.found n.0.place (kept_ends n.0 k n.2 ∙ e)) in
    let bound : n.0.found.count ≤ 0 + length bytes = text_counts r.text (initially m) n.0 n.1 in
    let count : k.found.count ≡ n.0.found.count = exact n.0 k n.2 (omega (arith, bound, short)) in
    record {
      tree = t;
      spelled = record { tokens = r.tokens; text = r.text; program = h.0 };
      few = λ le. ap (λ (s : State). tree_of s.found) (n.2.same (omega (arith, le, count)));
      many = λ lt. many_is m r.tokens t n.0.found.count h.0 (text_named r.text) h.1 (omega (arith, lt, count)) ∙ ap (λ (c : ℕ). Some (TooManyParts c)) (sym count);
    }

-- the refusal of what was read is that of the tree
pub shape_is : (m : Mode) (bytes : List ℕ) (k : State) (e : ShapeError) (h : TreeIs m bytes k) → shape_of k.found ≡ Some e → shape h.tree ≡ Some e
shape_is m bytes k e h q = at_test (nat_lt MAX_PARTS k.found.count) refl q
  where
    at_test : (b : Bool) → nat_lt MAX_PARTS k.found.count ≡ b → cond b (Some (TooManyParts k.found.count)) (shape (tree_of k.found)) ≡ Some e → shape h.tree ≡ Some e
    at_test true p q = h.many (ltb-true MAX_PARTS k.found.count p) ∙ q
    at_test false p q = ap shape (h.few (ltb-false MAX_PARTS k.found.count p)) ∙ q
