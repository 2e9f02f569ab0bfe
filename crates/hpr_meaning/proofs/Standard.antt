-- hpr's own meaning is one of all: its runs are the runs by `standard`, and so the laws of runs and of kept meaning are laws of hpr's programs.
use Rattle.std.proofs.Common.{◌≡◌, ℕ, zero, suc, ◌+◌, Bool, true, false, if◌then◌else◌, List, [], ◌∷◌, map, refl, sym, ap, subst, ◌∙◌, Ok, Err}
use Rattle.std.specs.List.{AllByRecursion}
use Rattle.std.specs.FinMap.{entries, same_entries_map}
use Rattle.std.proofs.Math.IntN.{ℤ_discrete}
use native.Mathlib.Decide.{ℕ_discrete}
use mathlib.Core.HLevel.{×_discrete}
use mathlib.Core.Sum.{discrete}
use Rattle.hpr_arrays.specs.Elements.{Elements}
use Rattle.hpr_terms.specs.declared.tag.Tag.{Tag}
use Rattle.hpr_terms.specs.declared.expr.Expr.{Expr}
use Rattle.hpr_syntax.specs.Private.ValueCode.{value_parts, value_back, value_same}
use Rattle.hpr_syntax.specs.declared.rows.Content.TheVariants.{If, While}
use Rattle.hpr_syntax.specs.Action.{Action, assigns, writes, stores}
use Rattle.hpr_syntax.specs.Rows.{content_by}
use Rattle.hpr_syntax.specs.Body.{Body, done, action, branch, loop}
use Rattle.hpr_syntax.specs.Tree.{Tree}
use Rattle.hpr_syntax.specs.declared.value.Value.{Value}
use Rattle.hpr_syntax.specs.Values.{Values}
use Rattle.hpr_syntax.specs.Contents.{Given, answer_of, next_state, holds}
use Rattle.hpr_syntax.specs.Run as std
use Rattle.hpr_syntax.specs.Meaning as kept
use Rattle.hpr_syntax.proofs.ActByUses.{act_by_uses, shown_by_uses}
use Rattle.hpr_syntax.proofs.StateLaws.{get_put, get_other}
use Rattle.hpr_meaning.specs.KeptLaw as law
use Rattle.hpr_meaning.proofs.Items.{lists_discrete}
use Rattle.hpr_meaning.specs.Any.Meaning.{HasLaws, next}
use Rattle.hpr_meaning.specs.Any.Standard.{standard, own_outcome}
use Rattle.hpr_meaning.specs.Any.Run as any
use Rattle.hpr_meaning.specs.Any.Kept.{Ends}
use Rattle.hpr_meaning.specs.Any.KeptLaw.{Finished, DoesFinish, HasChanged, HasValue, KeepsAll, programs_of, steps_in}

elements? : (es fs : Elements) → Dec (es ≡ fs)
elements? es fs = go (lists_discrete (×_discrete ℕ_discrete ℤ_discrete) (entries es) (entries fs))
  where
    go : Dec (entries es ≡ entries fs) → Dec (es ≡ fs)
    go (yes e) = yes (same_entries_map es fs e)
    go (no n) = no (λ e. n (ap entries e))

value? : (v w : Value) → Dec (v ≡ w)
value? v w = go (discrete ℤ_discrete (discrete (lists_discrete ℤ_discrete) elements?) (value_parts v) (value_parts w))
  where
    go : Dec (value_parts v ≡ value_parts w) → Dec (v ≡ w)
    go (yes e) = yes (sym (value_same v) ∙ ap value_back e ∙ value_same w)
    go (no n) = no (λ e. n (ap value_parts e))

stable_by : {A : Type 0} → Dec A → ¬ (¬ A) → A
stable_by (yes a) n = a
stable_by (no m) n = absurd (n m)

pub standard_laws : HasLaws standard
standard_laws = record { by_uses = act_by_uses; shown_by_uses = shown_by_uses; set_gives = get_put; set_keeps = get_other; stable = λ v w. stable_by (value? v w) }

-- a run by hpr's own meaning is the run
abbrev pub after : any.After standard → std.After
after (any.goes s left) = std.goes s left
after (any.stops t f left) = std.stops t f left
after any.spent = std.spent

step_is : (t : Tag) (a : Given) (left : ℕ) (go : Value → ℕ → any.After standard) (go' : Value → ℕ → std.After) → ((v : Value) (l : ℕ) → after (go v l) ≡ go' v l)
    → after (any.step standard t a left go) ≡ std.step t a left go'
step_is t a zero go go' h = refl
step_is t (Ok v) (suc left) go go' h = h v left
step_is t (Err f) (suc left) go go' h = refl

then_is : (x : any.After standard) (y : std.After) (go : Values → ℕ → any.After standard) (go' : Values → ℕ → std.After) → after x ≡ y → ((s : Values) (l : ℕ) → after (go s l) ≡ go' s l)
    → after (any.then_go standard x go) ≡ std.then_go y go'
then_is (any.goes s left) y go go' e h = h s left ∙ ap (λ z. std.then_go z go') e
then_is (any.stops t f left) y go go' e h = ap (λ z. std.then_go z go') e
then_is any.spent y go go' e h = ap (λ z. std.then_go z go') e

if_is : (b : Bool) (x y : any.After standard) (x' y' : std.After) → after x ≡ x' → after y ≡ y' → after (if b then x else y) ≡ (if b then x' else y')
if_is true x y x' y' p q = p
if_is false x y x' y' p q = q

turns_is : (n : ℕ) (t : Tag) (e : Expr) (body : Values → ℕ → any.After standard) (body' : Values → ℕ → std.After) → ((s : Values) (l : ℕ) → after (body s l) ≡ body' s l)
    → (s : Values) (left : ℕ) → after (any.turns standard n t e body s left) ≡ std.turns n t e body' s left
turns_is zero t e body body' h s left = refl
turns_is (suc n) t e body body' h s left =
    step_is t (answer_of (While e) s) left _ _ (λ v l.
    if_is (holds v) _ _ _ _ (then_is (body s l) (body' s l) _ _ (h s l) (λ s' l'. turns_is n t e body body' h s' l')) refl)

pub next_is : (d : Action) (v : Value) (s : Values) → next standard (content_by d) v s ≡ next_state (content_by d) v s
next_is (assigns x e) v s = refl
next_is (writes x e) v s = refl
next_is (stores x i e) v s = refl

pub body_is : (b : Body) (s : Values) (left : ℕ) → after (any.run_body standard b s left) ≡ std.run_body b s left
body_is done s left = refl
body_is (action t d rest) s left =
    step_is t (answer_of (content_by d) s) left _ _ (λ v l. body_is rest (next standard (content_by d) v s) l ∙ ap (λ r. std.run_body rest r l) (next_is d v s))
body_is (branch t e a b rest) s left =
    step_is t (answer_of (If e) s) left _ _ (λ v l.
    then_is (if holds v then any.run_body standard a s l else any.run_body standard b s l) (if holds v then std.run_body a s l else std.run_body b s l) _ _
    (if_is (holds v) _ _ _ _ (body_is a s l) (body_is b s l)) (λ s' l'. body_is rest s' l'))
body_is (loop t e b rest) s left =
    then_is (any.turns standard (left + 1) t e (any.run_body standard b) s left) (std.turns (left + 1) t e (std.run_body b) s left) _ _
    (turns_is (left + 1) t e (any.run_body standard b) (std.run_body b) (body_is b) s left) (λ s' l'. body_is rest s' l')

abbrev pub back : std.Outcome → any.Outcome standard
back (std.ends f k) = any.ends f k
back (std.faults t f k) = any.faults t f k
back (std.more k) = any.more k

there_and_back : (o : any.Outcome standard) → back (own_outcome o) ≡ o
there_and_back (any.ends f k) = refl
there_and_back (any.faults t f k) = refl
there_and_back (any.more k) = refl

outcome_is : (names : List (List ℕ)) (n : ℕ) (x : any.After standard) → own_outcome (any.outcome standard names n x) ≡ std.outcome names n (after x)
outcome_is names n (any.goes s left) = refl
outcome_is names n (any.stops t f left) = refl
outcome_is names n any.spent = refl

pub run_is : (p : Tree) (s : Values) (n : ℕ) → own_outcome (any.run standard p s n) ≡ std.run p s n
run_is p s n = outcome_is p.finals n (any.run_body standard p.body s n) ∙ ap (std.outcome p.finals n) (body_is p.body s n)

pub to_outcome : (p : Tree) (s : Values) (n : ℕ) (o : std.Outcome) → std.run p s n ≡ o → any.run standard p s n ≡ back o
to_outcome p s n o e = sym (there_and_back (any.run standard p s n)) ∙ ap back (run_is p s n ∙ e)

pub to_standard : (p : Tree) (s : Values) (n : ℕ) (f : std.FinalValues) → kept.Ends p s n f → Ends standard p s n f
to_standard p s n f (k, e) = (k, to_outcome p s n (std.ends f k) e)

pub from_standard : (p : Tree) (s : Values) (n : ℕ) (f : std.FinalValues) → Ends standard p s n f → kept.Ends p s n f
from_standard p s n f (k, e) = (k, sym (run_is p s n) ∙ ap own_outcome e)

-- finished programs by hpr's own meaning
abbrev finished : law.Finished → Finished standard
finished r = record { program = r.program; steps = r.steps; finals = r.finals }

programs_are : (rs : List law.Finished) → programs_of standard (map finished rs) ≡ law.programs_of rs
programs_are [] = refl
programs_are (r ∷ rs) = ap (λ (ts : List Tree). r.program ∷ ts) (programs_are rs)

steps_are : (rs : List law.Finished) → steps_in standard (map finished rs) ≡ law.steps_in rs
steps_are [] = refl
steps_are (r ∷ rs) = ap (λ n. r.steps + n) (steps_are rs)

all_finish : (s : Values) (rs : List law.Finished) → AllByRecursion (law.DoesFinish s) rs → AllByRecursion (DoesFinish standard s) (map finished rs)
all_finish s [] ended = tt
all_finish s (r ∷ rs) ended = (to_standard r.program s r.steps r.finals ended.0, all_finish s rs ended.1)

changed_are : (f0 f : std.FinalValues) (rs : List law.Finished) → AllByRecursion (HasChanged standard f0 f) (map finished rs) → AllByRecursion (law.HasChanged f0 f) rs
changed_are f0 f [] all = tt
changed_are f0 f (r ∷ rs) all = (all.0, changed_are f0 f rs all.1)

values_are : (x : List ℕ) (v : Value) (rs : List law.Finished) → AllByRecursion (law.HasValue x v) rs → AllByRecursion (HasValue standard x v) (map finished rs)
values_are x v [] all = tt
values_are x v (r ∷ rs) all = (all.0, values_are x v rs all.1)

-- what keeps meaning by hpr's own meaning keeps meaning
pub keeps_standard : (base m : Tree) (vs : List Tree) → KeepsAll standard base vs m → law.KeepsAll base vs m
keeps_standard base m vs keeps s n0 f0 rs are e0 ended =
    let (f, end, is_kept) = keeps s n0 f0 (map finished rs) (programs_are rs ∙ are) (to_standard base s n0 f0 e0) (all_finish s rs ended) in (
      f,
      subst (λ (n : ℕ). kept.Ends m s (n0 + n) f) (steps_are rs) (from_standard m s _ f end),
      record {
        changed = changed_are f0 f rs is_kept.changed;
        agreed = λ x v c0 cs. is_kept.agreed x v c0 (values_are x v rs cs);
      },
    )
