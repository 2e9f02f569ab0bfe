-- What the machine of contents keeps for the reader of bytes.
--
-- content_goes_read        == where an expression reads the token, the content goes on in it
-- content_goes_in_index    == where the index of a store reads the token, the content goes on in it
-- content_is_token_machine == the laws of a machine of tokens hold for `content_next`
-- content_live             == from every state some tokens lead to the end of a content
-- content_ends_at_once     == a content ends with its `;`
use Rattle.std.proofs.Common.{◌≡◌, ℕ, ◌≤◌, ◌^◌, List, true, false, Option, Some, None, is_some, refl, sym, ap, subst, ◌∙◌}
use Rattle.hpr_terms.specs.declared.expr.Expr.{Expr}
use Rattle.hpr_terms.specs.declared.keyword.Keyword.TheVariants as keyword
use Rattle.hpr_terms.specs.declared.token.Sign.{Sign}
use Rattle.hpr_terms.specs.declared.token.Sign.TheVariants as sign
use Rattle.hpr_terms.specs.declared.token.Token.{Token}
use Rattle.hpr_terms.specs.declared.token.Token.TheVariants.{Word, Name, Number, Mark}
use Rattle.hpr_scan.specs.Machine.{IsTokenMachine, Live, ends, goes, EndsAtOnce}
use Rattle.hpr_expressions.specs.declared.expression.Reading.{Reading}
use Rattle.hpr_text.specs.declared.content.Aim.{Aim}
use Rattle.hpr_text.specs.declared.content.Aim.TheVariants.{Assign, Test, Guard, Output, Store}
use Rattle.hpr_text.specs.declared.content.ContentState.{ContentState}
use Rattle.hpr_text.specs.declared.content.ContentState.TheVariants.{Start, AfterTarget, InIndex, AfterIndex, InExpression, Ended}
use Rattle.hpr_expressions.specs.Expression.{start, start_after, counted_in, read, ended, can_end}
use Rattle.hpr_expressions.specs.Laws.{reading_is_token_machine, reading_live, no_semicolon, square_inside}
use Rattle.hpr_text.specs.ContentMachine.{content_of, content_ends, content_goes_on, content_next, content_may_end}
use Rattle.hpr_text.specs.Live.{x_text, x_is_name}

some_is : {A : Type 0} (x y : A) → Some x ≡ Some y → x ≡ y
some_is x y e = cc

-- ---- names and numbers

some_goes : (state : Reading → ContentState) (o : Option Reading) → is_some (content_goes_on state o) ≡ is_some o
some_goes state None = refl
some_goes state (Some r) = refl

pub content_goes_read : (aim : Aim) (r n : Reading) (t : Token) → read r t ≡ Some n → content_next (InExpression aim r) t ≡ Some (InExpression aim n)
unfolding content_next
content_goes_read aim r n (Mark sign.Semicolon) e = absurd (no_semicolon r n e)
content_goes_read aim r n t e = ap (content_goes_on (InExpression aim)) e

pub content_goes_in_index : (a : List ℕ) (r n : Reading) (t : Token) → read r t ≡ Some n → content_next (InIndex a r) t ≡ Some (InIndex a n)
unfolding content_next
content_goes_in_index a r n (Mark sign.CloseSquare) e = rw (square_inside r n e, e) refl
content_goes_in_index a r n t e = ap (content_goes_on (InIndex a)) e

names_alike : (s : ContentState) (x y : List ℕ) → is_some (content_next s (Name x)) ≡ is_some (content_next s (Name y))
unfolding content_next
names_alike Start x y = refl
names_alike (AfterTarget z) x y = refl
names_alike (InIndex a r) x y = some_goes (InIndex a) (read r (Name x)) ∙ reading_is_token_machine.names r x y ∙ sym (some_goes (InIndex a) (read r (Name y)))
names_alike (AfterIndex a i k) x y = refl
names_alike (InExpression aim r) x y =
    some_goes (InExpression aim) (read r (Name x)) ∙ reading_is_token_machine.names r x y ∙ sym (some_goes (InExpression aim) (read r (Name y)))
names_alike (Ended c) x y = refl

smaller_next : (s : ContentState) (m n : ℕ) → 1 ≤ m → m ≤ n → is_some (content_next s (Number n)) ≡ true → is_some (content_next s (Number m)) ≡ true
unfolding content_next
smaller_next Start m n one le e = absurd cc
smaller_next (AfterTarget x) m n one le e = absurd cc
smaller_next (InIndex a r) m n one le e =
    some_goes (InIndex a) (read r (Number m)) ∙ reading_is_token_machine.smaller r m n one le (sym (some_goes (InIndex a) (read r (Number n))) ∙ e)
smaller_next (AfterIndex a i k) m n one le e = absurd cc
smaller_next (InExpression aim r) m n one le e =
    some_goes (InExpression aim) (read r (Number m)) ∙ reading_is_token_machine.smaller r m n one le (sym (some_goes (InExpression aim) (read r (Number n))) ∙ e)
smaller_next (Ended c) m n one le e = absurd cc

bounded_next : (s : ContentState) (n : ℕ) → 2 ^ 64 ≤ n → content_next s (Number n) ≡ None
unfolding content_next
bounded_next Start n le = refl
bounded_next (AfterTarget x) n le = refl
bounded_next (InIndex a r) n le = ap (content_goes_on (InIndex a)) (reading_is_token_machine.bounded r n le)
bounded_next (AfterIndex a i k) n le = refl
bounded_next (InExpression aim r) n le = ap (content_goes_on (InExpression aim)) (reading_is_token_machine.bounded r n le)
bounded_next (Ended c) n le = refl

-- ---- signs that may be the front of a longer one

-- the sign cannot stand next
abbrev Stops : Sign → ContentState → Type 0
Stops x s = content_next s (Mark x) ≡ None

-- where an expression goes on, it has read the token
goes_to : (state : Reading → ContentState) (o : Option Reading) (n : ContentState) → content_goes_on state o ≡ Some n → (m : Reading) × (o ≡ Some m) × (state m ≡ n)
goes_to state None n e = absurd cc
goes_to state (Some m) n e = (m, refl, some_is _ _ e)

stops_in : (state : Reading → ContentState) (x : Sign) (m : Reading) (n : ContentState) → content_next (state m) (Mark x) ≡ content_goes_on state (read m (Mark x)) → read m (Mark x) ≡ None → state m ≡ n → Stops x n
stops_in state x m n go none e = subst (Stops x) e (go ∙ ap (content_goes_on state) none)

colon_equal : (s n : ContentState) → content_next s (Mark sign.Colon) ≡ Some n → Stops sign.Equal n
unfolding content_next
colon_equal (InExpression aim r) n e =
    let m = goes_to (InExpression aim) (read r (Mark sign.Colon)) n e in
    stops_in (InExpression aim) sign.Equal m.0 n refl (reading_is_token_machine.colon r m.0 m.1) m.2
colon_equal (InIndex a r) n e =
    let m = goes_to (InIndex a) (read r (Mark sign.Colon)) n e in
    stops_in (InIndex a) sign.Equal m.0 n refl (reading_is_token_machine.colon r m.0 m.1) m.2
colon_equal s n e = absurd cc

less_equal : (s n : ContentState) → content_next s (Mark sign.Less) ≡ Some n → Stops sign.Equal n
unfolding content_next
less_equal (InExpression aim r) n e =
    let m = goes_to (InExpression aim) (read r (Mark sign.Less)) n e in
    stops_in (InExpression aim) sign.Equal m.0 n refl (reading_is_token_machine.less_equal r m.0 m.1) m.2
less_equal (InIndex a r) n e =
    let m = goes_to (InIndex a) (read r (Mark sign.Less)) n e in
    stops_in (InIndex a) sign.Equal m.0 n refl (reading_is_token_machine.less_equal r m.0 m.1) m.2
less_equal s n e = absurd cc

less_greater : (s n : ContentState) → content_next s (Mark sign.Less) ≡ Some n → Stops sign.Greater n
unfolding content_next
less_greater (InExpression aim r) n e =
    let m = goes_to (InExpression aim) (read r (Mark sign.Less)) n e in
    stops_in (InExpression aim) sign.Greater m.0 n refl (reading_is_token_machine.less_greater r m.0 m.1) m.2
less_greater (InIndex a r) n e =
    let m = goes_to (InIndex a) (read r (Mark sign.Less)) n e in
    stops_in (InIndex a) sign.Greater m.0 n refl (reading_is_token_machine.less_greater r m.0 m.1) m.2
less_greater s n e = absurd cc

less_greater_equal : (s n : ContentState) → content_next s (Mark sign.Less) ≡ Some n → Stops sign.GreaterEqual n
unfolding content_next
less_greater_equal (InExpression aim r) n e =
    let m = goes_to (InExpression aim) (read r (Mark sign.Less)) n e in
    stops_in (InExpression aim) sign.GreaterEqual m.0 n refl (reading_is_token_machine.less_greater_equal r m.0 m.1) m.2
less_greater_equal (InIndex a r) n e =
    let m = goes_to (InIndex a) (read r (Mark sign.Less)) n e in
    stops_in (InIndex a) sign.GreaterEqual m.0 n refl (reading_is_token_machine.less_greater_equal r m.0 m.1) m.2
less_greater_equal s n e = absurd cc

greater_equal : (s n : ContentState) → content_next s (Mark sign.Greater) ≡ Some n → Stops sign.Equal n
unfolding content_next
greater_equal (InExpression aim r) n e =
    let m = goes_to (InExpression aim) (read r (Mark sign.Greater)) n e in
    stops_in (InExpression aim) sign.Equal m.0 n refl (reading_is_token_machine.greater r m.0 m.1) m.2
greater_equal (InIndex a r) n e =
    let m = goes_to (InIndex a) (read r (Mark sign.Greater)) n e in
    stops_in (InIndex a) sign.Equal m.0 n refl (reading_is_token_machine.greater r m.0 m.1) m.2
greater_equal s n e = absurd cc

pub content_is_token_machine : IsTokenMachine content_next
content_is_token_machine = record {
  names = names_alike;
  smaller = smaller_next;
  bounded = bounded_next;
  colon = colon_equal;
  less_equal = less_equal;
  less_greater = less_greater;
  less_greater_equal = less_greater_equal;
  greater = greater_equal;
}

-- ---- the end

abbrev IsLive : ContentState → Type 0
IsLive s = Live content_next content_may_end s

live_ends : (aim : Aim) (r : Reading) (o : Option Expr) → ended r ≡ o → is_some o ≡ true → IsLive (InExpression aim r)
unfolding content_next
live_ends aim r None q e = absurd cc
live_ends aim r (Some v) q e = goes (Mark sign.Semicolon) (Ended (content_of aim v)) tt (ap (content_ends aim) q) (ends refl)

live_in : (aim : Aim) {r : Reading} → Live read can_end r → IsLive (InExpression aim r)
live_in aim (ends {s = r} e) = live_ends aim r (ended r) refl e
live_in aim (goes {s = r} t n h e k) = goes t (InExpression aim n) h (content_goes_read aim r n t e) (live_in aim k)

live_inside : (aim : Aim) (r : Reading) → IsLive (InExpression aim r)
live_inside aim r = live_in aim (reading_live r)

live_index : (a : List ℕ) (i : Expr) (k : ℕ) → IsLive (AfterIndex a i k)
unfolding content_next
live_index a i k = goes (Mark sign.Becomes) (InExpression (Store a i) (start_after k)) tt refl (live_inside (Store a i) (start_after k))

index_live_ends : (a : List ℕ) (r : Reading) (o : Option Expr) → ended r ≡ o → is_some o ≡ true → IsLive (InIndex a r)
unfolding content_next
index_live_ends a r None q e = absurd cc
index_live_ends a r (Some i) q e = goes (Mark sign.CloseSquare) (AfterIndex a i (counted_in r)) tt (rw q refl) (live_index a i (counted_in r))

index_live_in : (a : List ℕ) {r : Reading} → Live read can_end r → IsLive (InIndex a r)
index_live_in a (ends {s = r} e) = index_live_ends a r (ended r) refl e
index_live_in a (goes {s = r} t n h e k) = goes t (InIndex a n) h (content_goes_in_index a r n t e) (index_live_in a k)

live_target : (x : List ℕ) → IsLive (AfterTarget x)
unfolding content_next
live_target x = goes (Mark sign.Becomes) (InExpression (Assign x) start) tt refl (live_inside (Assign x) start)

pub content_live : (s : ContentState) → Live content_next content_may_end s
unfolding content_next
content_live Start = goes (Name x_text) (AfterTarget x_text) x_is_name refl (live_target x_text)
content_live (AfterTarget x) = live_target x
content_live (InIndex a r) = index_live_in a (reading_live r)
content_live (AfterIndex a i k) = live_index a i k
content_live (InExpression aim r) = live_inside aim r
content_live (Ended c) = ends refl

differs : (m n : ContentState) → Some m ≡ Some n → content_may_end m ≡ false → content_may_end n ≡ true → ⊥
differs m n e f g = let h : content_may_end m ≡ content_may_end n = ap content_may_end (some_is m n e) in absurd cc

goes_not_ended : (state : Reading → ContentState) (o : Option Reading) (n : ContentState) → ((r : Reading) → content_may_end (state r) ≡ false) → content_goes_on state o ≡ Some n → content_may_end n ≡ true → ⊥
goes_not_ended state None n goes_on e f = absurd cc
goes_not_ended state (Some r) n goes_on e f = differs (state r) n e (goes_on r) f

pub content_ends_at_once : (s n : ContentState) (t : Token) → content_next s t ≡ Some n → content_may_end n ≡ true → EndsAtOnce t
unfolding content_next
content_ends_at_once Start n (Name x) e f = absurd (differs (AfterTarget x) n e refl f)
content_ends_at_once Start n (Word keyword.If) e f = absurd (differs (InExpression Test start) n e refl f)
content_ends_at_once Start n (Word keyword.While) e f = absurd (differs (InExpression Guard start) n e refl f)
content_ends_at_once Start n (Word keyword.Write) e f = absurd (differs (InExpression Output start) n e refl f)
content_ends_at_once Start n t e f = absurd cc
content_ends_at_once (AfterTarget x) n (Mark sign.Becomes) e f = tt
content_ends_at_once (AfterTarget x) n (Mark sign.OpenSquare) e f = tt
content_ends_at_once (AfterTarget x) n t e f = absurd cc
content_ends_at_once (InIndex a r) n (Mark sign.CloseSquare) e f = tt
content_ends_at_once (InIndex a r) n t e f = absurd (goes_not_ended (InIndex a) (read r t) n (λ m. refl) e f)
content_ends_at_once (AfterIndex a i k) n (Mark sign.Becomes) e f = tt
content_ends_at_once (AfterIndex a i k) n t e f = absurd cc
content_ends_at_once (InExpression aim r) n (Mark sign.Semicolon) e f = tt
content_ends_at_once (InExpression aim r) n t e f = absurd (goes_not_ended (InExpression aim) (read r t) n (λ m. refl) e f)
content_ends_at_once (Ended c) n t e f = absurd cc
