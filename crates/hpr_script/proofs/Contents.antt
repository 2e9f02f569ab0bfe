-- Contents within scripts: what the machine of scripts reads between the head of a command and its `;`.
use Rattle.std.proofs.Common.{◌≡◌, ℕ, ◌+◌, false, Bool, List, [], ◌∷◌, ◌++◌, length, take, Option, Some, None, refl, sym, ap, subst, ◌∙◌}
use Rattle.std.proofs.Math.Seq.{take-append-add}
use Rattle.hpr_terms.specs.declared.token.Sign.TheVariants.{Semicolon}
use Rattle.hpr_terms.specs.declared.token.Token.{Token}
use Rattle.hpr_terms.specs.declared.token.Token.TheVariants.{Mark}
use Rattle.hpr_terms.specs.Tokens.{Text, ending, token, blanks, nothing}
use Rattle.hpr_terms.proofs.Facts.{some_inj}
use Rattle.hpr_syntax.specs.declared.rows.Content.{Content}
use Rattle.hpr_scan.specs.Steps.{and_then, runs}
use Rattle.hpr_scan.proofs.Words.{none_some, true_false}
use Rattle.hpr_text.specs.declared.content.ContentState.{ContentState}
use Rattle.hpr_text.specs.declared.content.ContentState.TheVariants.{Start, AfterTarget, InIndex, AfterIndex, InExpression, Ended}
use Rattle.hpr_text.specs.Contents.{SpellsContent, HasContent}
use Rattle.hpr_text.specs.ContentMachine.{content_next, content_may_end}
use Rattle.hpr_text.proofs.Contents.{content_is, content_runs, run_one}
use Rattle.hpr_script.specs.declared.found.Found.{Found}
use Rattle.hpr_script.specs.declared.stage.Holder.{Holder}
use Rattle.hpr_script.specs.declared.stage.Stage.TheVariants.{AtCommand}
use Rattle.hpr_script.specs.Machine.{State, head, inside, with_command, filled, content_goes, next, is_end}

-- ---- contents in scripts

-- the state that a content leads to
abbrev filled_in : Found → Holder → Content → State
filled_in f h c = head (with_command (filled h c) f) AtCommand

-- no end was read
abbrev IsOpen : ContentState → Type 0
IsOpen c = content_may_end c ≡ false

ended_runs : (c d : Content) (ts : List Token) → runs content_next (Ended c) ts ≡ Some (Ended d) → (ts ≡ []) × (c ≡ d)
unfolding content_next
ended_runs c d [] e = (refl, cc)
ended_runs c d (t ∷ ts) e = absurd (none_some e)

lift_at : (f : Found) (h : Holder) (o : Option ContentState) (ts : List Token) (d : Content) → and_then o (λ m. runs content_next m ts) ≡ Some (Ended d)
    → ((m : ContentState) → IsOpen m → runs content_next m ts ≡ Some (Ended d) → runs next (inside f h m) ts ≡ Some (filled_in f h d))
    → and_then (content_goes f h o) (λ m. runs next m ts) ≡ Some (filled_in f h d)
lift_at f h None ts d e go = absurd (none_some e)
lift_at f h (Some (Ended c)) ts d e go = let k = ended_runs c d ts e in rw (k.0, k.1) refl
lift_at f h (Some Start) ts d e go = go Start refl e
lift_at f h (Some (AfterTarget x)) ts d e go = go (AfterTarget x) refl e
lift_at f h (Some (InIndex a r)) ts d e go = go (InIndex a r) refl e
lift_at f h (Some (AfterIndex a i k)) ts d e go = go (AfterIndex a i k) refl e
lift_at f h (Some (InExpression aim r)) ts d e go = go (InExpression aim r) refl e

open_ends : (c : ContentState) (d : Content) → IsOpen c → Some c ≡ Some (Ended d) → ⊥
open_ends (Ended c) d o e = absurd cc
open_ends Start d o e = absurd cc
open_ends (AfterTarget x) d o e = absurd cc
open_ends (InIndex a r) d o e = absurd cc
open_ends (AfterIndex a i k) d o e = absurd cc
open_ends (InExpression aim r) d o e = absurd cc

lift : (f : Found) (h : Holder) (c : ContentState) (ts : List Token) (d : Content) → IsOpen c → runs content_next c ts ≡ Some (Ended d) → runs next (inside f h c) ts ≡ Some (filled_in f h d)
unfolding next
lift f h c [] d o e = absurd (open_ends c d o e)
lift f h c (t ∷ ts) d o e = lift_at f h (content_next c t) ts d e (λ m o e. lift f h m ts d o e)

-- a content and its `;` make the command
pub content_makes : (f : Found) (h : Holder) (ts : List Token) (c : Content) → SpellsContent ts c → runs next (inside f h Start) (ts ++ (Mark Semicolon ∷ [])) ≡ Some (filled_in f h c)
content_makes f h ts c s = lift f h Start (ts ++ (Mark Semicolon ∷ [])) c refl (content_runs ts c s)

-- tokens that lead from within a content to an end begin with the rest of the content and a `;`
record Splits (c : ContentState) (ts : List Token) : Type 0 where
  before : List Token
  behind : List Token
  content : Content
  is : ts ≡ before ++ behind
  run : runs content_next c before ≡ Some (Ended content)

longer : (c m : ContentState) (t : Token) (ts : List Token) → content_next c t ≡ Some m → Splits m ts → Splits c (t ∷ ts)
longer c m t ts e k = record { before = t ∷ k.before; behind = k.behind; content = k.content; is = ap (λ (x : List Token). t ∷ x) k.is; run = run_one c m t k.before e ∙ k.run }

splits_at : (f : Found) (h : Holder) (c : ContentState) (t : Token) (ts : List Token) (g : Found) (o : Option ContentState) → content_next c t ≡ o
    → and_then (content_goes f h o) (λ m. runs next m ts) ≡ Some (head g AtCommand)
    → ((m : ContentState) → runs next (inside f h m) ts ≡ Some (head g AtCommand) → Splits m ts) → Splits c (t ∷ ts)
splits_at f h c t ts g None e q go = absurd (none_some q)
splits_at f h c t ts g (Some (Ended d)) e q go = record { before = t ∷ []; behind = ts; content = d; is = refl; run = run_one c (Ended d) t [] e }
splits_at f h c t ts g (Some Start) e q go = longer c Start t ts e (go Start q)
splits_at f h c t ts g (Some (AfterTarget x)) e q go = longer c (AfterTarget x) t ts e (go (AfterTarget x) q)
splits_at f h c t ts g (Some (InIndex a r)) e q go = longer c (InIndex a r) t ts e (go (InIndex a r) q)
splits_at f h c t ts g (Some (AfterIndex a i k)) e q go = longer c (AfterIndex a i k) t ts e (go (AfterIndex a i k) q)
splits_at f h c t ts g (Some (InExpression aim r)) e q go = longer c (InExpression aim r) t ts e (go (InExpression aim r) q)

inside_ends : (f g : Found) (h : Holder) (c : ContentState) → Some (inside f h c) ≡ Some (head g AtCommand) → ⊥
inside_ends f g h c e = true_false (ap is_end (some_inj (inside f h c) (head g AtCommand) e)) refl

splits : (f : Found) (h : Holder) (c : ContentState) (ts : List Token) (g : Found) → runs next (inside f h c) ts ≡ Some (head g AtCommand) → Splits c ts
unfolding next
splits f h c [] g e = absurd (inside_ends f g h c e)
splits f h c (t ∷ ts) g e = splits_at f h c t ts g (content_next c t) refl e (λ m q. splits f h m ts g q)

-- a front of the bytes is the text of the first tokens
pub text_front : (us vs : List Token) {w : Bool} {bytes : List ℕ} → Text w bytes (us ++ vs) → (j : ℕ) × Text w (take j bytes) us
text_front [] vs t = (0, ending (blanks nothing))
text_front (u ∷ us) vs {w = w} (token bs text {rest = rest} k h a more) =
    let r = text_front us vs more in
    let whole : take (length bs + (length text + r.0)) (bs ++ (text ++ rest)) ≡ bs ++ (text ++ take r.0 rest) =
    take-append-add bs (text ++ rest) (length text + r.0) ∙ ap (λ (x : List ℕ). bs ++ x) (take-append-add text rest r.0) in
    (length bs + (length text + r.0), subst (λ (x : List ℕ). Text w x (u ∷ us)) (sym whole) (token bs text k h a r.1))

-- bytes whose tokens lead from before a content to an end begin with the text of a content
pub content_begins : (f g : Found) (h : Holder) (bytes : List ℕ) (ts : List Token) → Text false bytes ts → runs next (inside f h Start) ts ≡ Some (head g AtCommand) → (j : ℕ) × HasContent (take j bytes)
content_begins f g h bytes ts x e =
    let s = splits f h Start ts g e in
    let r = text_front s.before s.behind (subst (Text false bytes) s.is x) in
    let k = content_is Start [] s.before (Ended s.content) refl s.run in
    (r.0, (s.content, record { tokens = k.0; spelled = k.1; text = subst (Text false (take r.0 bytes)) k.2 r.1 }))
