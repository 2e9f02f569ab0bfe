-- What the machine of scripts keeps for the reader of bytes.
use Rattle.std.proofs.Common.{◌≡◌, ℕ, ◌≤◌, ◌^◌, List, Bool, true, false, nat_lt, nat_le, Option, Some, None, is_some, refl, sym, ap, subst, ◌∙◌, arith}
use Rattle.std.proofs.lemmas.Bool.{le-ltb, le-leb, and_parts, and_from}
use Rattle.hpr_terms.specs.declared.token.Sign.TheVariants as sign
use Rattle.hpr_terms.specs.declared.token.Token.{Token}
use Rattle.hpr_terms.specs.declared.token.Token.TheVariants.{Name, Number, Mark}
use Rattle.hpr_terms.proofs.Facts.{and_false, some_inj}
use Rattle.hpr_syntax.specs.declared.rows.Content.{Content}
use Rattle.hpr_scan.specs.Machine.{IsTokenMachine}
use Rattle.hpr_expressions.specs.Laws.{guarded, guards, unguarded, below}
use Rattle.hpr_text.specs.declared.content.ContentState.{ContentState}
use Rattle.hpr_text.specs.declared.content.ContentState.TheVariants.{Start, AfterTarget, InIndex, AfterIndex, InExpression, Ended}
use Rattle.hpr_text.specs.ContentMachine.{content_next}
use Rattle.hpr_text.specs.ContentLaws.{content_is_token_machine}
use Rattle.hpr_script.specs.declared.found.Found.{Found}
use Rattle.hpr_script.specs.declared.stage.Holder.{Holder}
use Rattle.hpr_script.specs.declared.stage.Stage.{Stage}
use Rattle.hpr_script.specs.declared.stage.Stage.TheVariants.{AtCommand, AtTag, AfterAuthor, AfterDot, AtPlace, AfterAt, AfterParent, AtCount, AtNames, AfterOpen, AfterName, AfterNameOpen, AfterFinal, AfterComma, AtEnd}
use Rattle.hpr_script.specs.declared.stage.Turn.{Turn}
use Rattle.hpr_script.specs.Stages.{is_count, is_serial, takes_name, wants_word, number_turn}
use Rattle.hpr_script.specs.Machine.{State, head, inside, lost, at_turn, turns_at, variable_turn, name_turn, number_after, sign_after, with_command, filled, or_lost, name_next, content_goes, next}

-- ---- numbers

small_false : (n : ℕ) → 2 ^ 64 ≤ n → is_count n ≡ false
small_false n le = le-ltb n (2 ^ 32) (omega (arith, le))

serial_false : (n : ℕ) → 2 ^ 64 ≤ n → is_serial n ≡ false
serial_false n le = rw (small_false n le) (and_false (nat_le 1 n))

pub large_number : (s : Stage) (n : ℕ) → 2 ^ 64 ≤ n → number_turn s n ≡ None
unfolding number_turn
large_number (AtTag a) n le = unguarded (is_count n) _ (small_false n le)
large_number (AfterAt p) n le = unguarded (is_count n) _ (small_false n le)
large_number (AfterDot a m) n le = unguarded (is_serial n) _ (serial_false n le)
large_number (AtCount p parent) n le = unguarded (is_count n) _ (small_false n le)
large_number AtCommand n le = refl
large_number (AfterAuthor a m) n le = refl
large_number (AtPlace p) n le = refl
large_number (AfterParent p t) n le = refl
large_number AtNames n le = refl
large_number AfterOpen n le = refl
large_number AfterName n le = refl
large_number AfterNameOpen n le = refl
large_number AfterFinal n le = refl
large_number AfterComma n le = refl
large_number (AtEnd p) n le = refl

count_below : (m n : ℕ) → m ≤ n → is_count n ≡ true → is_count m ≡ true
count_below m n le e = below m n (2 ^ 32) le e

serial_below : (m n : ℕ) → 1 ≤ m → m ≤ n → is_serial n ≡ true → is_serial m ≡ true
serial_below m n one le e =
    let p = and_parts (nat_le 1 n) (nat_lt n (2 ^ 32)) e in
    and_from (nat_le 1 m) (nat_lt m (2 ^ 32)) (le-leb 1 m one) (below m n (2 ^ 32) le p.1)

smaller_turn : (s : Stage) (m n : ℕ) → 1 ≤ m → m ≤ n → is_some (number_turn s n) ≡ true → is_some (number_turn s m) ≡ true
unfolding number_turn
smaller_turn (AtTag a) m n one le e = guards (is_count m) _ (count_below m n le (guarded (is_count n) _ e))
smaller_turn (AfterAt p) m n one le e = guards (is_count m) _ (count_below m n le (guarded (is_count n) _ e))
smaller_turn (AfterDot a k) m n one le e = guards (is_serial m) _ (serial_below m n one le (guarded (is_serial n) _ e))
smaller_turn (AtCount p parent) m n one le e = guards (is_count m) _ (count_below m n le (guarded (is_count n) _ e))
smaller_turn AtCommand m n one le e = absurd cc
smaller_turn (AfterAuthor a k) m n one le e = absurd cc
smaller_turn (AtPlace p) m n one le e = absurd cc
smaller_turn (AfterParent p t) m n one le e = absurd cc
smaller_turn AtNames m n one le e = absurd cc
smaller_turn AfterOpen m n one le e = absurd cc
smaller_turn AfterName m n one le e = absurd cc
smaller_turn AfterNameOpen m n one le e = absurd cc
smaller_turn AfterFinal m n one le e = absurd cc
smaller_turn AfterComma m n one le e = absurd cc
smaller_turn (AtEnd p) m n one le e = absurd cc

turns_some : (f : Found) (o : Option Turn) → is_some (at_turn (turns_at f o)) ≡ is_some o
turns_some f None = refl
turns_some f (Some t) = refl

pub number_some : (f : Found) (s : Stage) (n : ℕ) → is_some (at_turn (number_after f s n)) ≡ is_some (number_turn s n)
unfolding number_after
number_some f s n = turns_some f (number_turn s n)

-- ---- names

pub lost_some : (o : Option State) → is_some (or_lost o) ≡ true
lost_some None = refl
lost_some (Some s) = refl

any_alike : (f : Found) (s : Stage) (x y : List ℕ) (b : Bool) → takes_name s ≡ b → is_some (at_turn (variable_turn f s x AfterName)) ≡ is_some (at_turn (variable_turn f s y AfterName))
any_alike f s x y true e = rw e refl
any_alike f s x y false e = rw e refl

names_alike : (f : Found) (s : Stage) (x y : List ℕ) (b : Bool) → wants_word s ≡ b → is_some (name_next (wants_word s) (at_turn (name_turn f s x))) ≡ is_some (name_next (wants_word s) (at_turn (name_turn f s y)))
unfolding name_turn
names_alike f s x y true e = rw e (lost_some _ ∙ sym (lost_some _))
names_alike f s x y false e = rw e (any_alike f s x y (takes_name s) refl)

-- ---- contents

content_some : (f : Found) (h : Holder) (o : Option ContentState) → is_some (content_goes f h o) ≡ is_some o
content_some f h None = refl
content_some f h (Some Start) = refl
content_some f h (Some (AfterTarget x)) = refl
content_some f h (Some (InIndex a r)) = refl
content_some f h (Some (AfterIndex a i k)) = refl
content_some f h (Some (InExpression aim r)) = refl
content_some f h (Some (Ended c)) = refl

abbrev Stops : Token → State → Type 0
Stops t s = next s t ≡ None

-- behind a content's sign, which leads to no end, a sign cannot stand next
content_stops : (f : Found) (h : Holder) (t : Token) (o : Option ContentState) (n : State) → content_goes f h o ≡ Some n
    → ((m : ContentState) → o ≡ Some m → content_next m t ≡ None) → ((c : Content) → next (head (with_command (filled h c) f) AtCommand) t ≡ None) → Stops t n
unfolding next
content_stops f h t None n e g k = absurd cc
content_stops f h t (Some (Ended c)) n e g k = subst (Stops t) (some_inj _ _ e) (k c)
content_stops f h t (Some Start) n e g k = subst (Stops t) (some_inj _ _ e) (ap (content_goes f h) (g Start refl))
content_stops f h t (Some (AfterTarget x)) n e g k = subst (Stops t) (some_inj _ _ e) (ap (content_goes f h) (g (AfterTarget x) refl))
content_stops f h t (Some (InIndex a r)) n e g k = subst (Stops t) (some_inj _ _ e) (ap (content_goes f h) (g (InIndex a r) refl))
content_stops f h t (Some (AfterIndex a i c)) n e g k = subst (Stops t) (some_inj _ _ e) (ap (content_goes f h) (g (AfterIndex a i c) refl))
content_stops f h t (Some (InExpression aim r)) n e g k = subst (Stops t) (some_inj _ _ e) (ap (content_goes f h) (g (InExpression aim r) refl))

-- ---- the laws

names_next : (s : State) (x y : List ℕ) → is_some (next s (Name x)) ≡ is_some (next s (Name y))
unfolding next
names_next (head f s) x y = names_alike f s x y (wants_word s) refl
names_next (inside f h c) x y = content_some f h (content_next c (Name x)) ∙ content_is_token_machine.names c x y ∙ sym (content_some f h (content_next c (Name y)))
names_next lost x y = refl

smaller_next : (s : State) (m n : ℕ) → 1 ≤ m → m ≤ n → is_some (next s (Number n)) ≡ true → is_some (next s (Number m)) ≡ true
unfolding next
smaller_next (head f s) m n one le e = number_some f s m ∙ smaller_turn s m n one le (sym (number_some f s n) ∙ e)
smaller_next (inside f h c) m n one le e =
    content_some f h (content_next c (Number m)) ∙ content_is_token_machine.smaller c m n one le (sym (content_some f h (content_next c (Number n))) ∙ e)
smaller_next lost m n one le e = absurd cc

bounded_next : (s : State) (n : ℕ) → 2 ^ 64 ≤ n → next s (Number n) ≡ None
unfolding next number_after
bounded_next (head f s) n le = ap (λ (o : Option Turn). at_turn (turns_at f o)) (large_number s n le)
bounded_next (inside f h c) n le = ap (content_goes f h) (content_is_token_machine.bounded c n le)
bounded_next lost n le = refl

colon_next : (s n : State) → next s (Mark sign.Colon) ≡ Some n → Stops (Mark sign.Equal) n
unfolding next sign_after
colon_next (head f s) n e = absurd cc
colon_next (inside f h c) n e = content_stops f h (Mark sign.Equal) (content_next c (Mark sign.Colon)) n e (λ m q. content_is_token_machine.colon c m q) (λ d. refl)
colon_next lost n e = absurd cc

less_equal_next : (s n : State) → next s (Mark sign.Less) ≡ Some n → Stops (Mark sign.Equal) n
unfolding next sign_after
less_equal_next (head f s) n e = absurd cc
less_equal_next (inside f h c) n e = content_stops f h (Mark sign.Equal) (content_next c (Mark sign.Less)) n e (λ m q. content_is_token_machine.less_equal c m q) (λ d. refl)
less_equal_next lost n e = absurd cc

less_greater_next : (s n : State) → next s (Mark sign.Less) ≡ Some n → Stops (Mark sign.Greater) n
unfolding next sign_after
less_greater_next (head f s) n e = absurd cc
less_greater_next (inside f h c) n e = content_stops f h (Mark sign.Greater) (content_next c (Mark sign.Less)) n e (λ m q. content_is_token_machine.less_greater c m q) (λ d. refl)
less_greater_next lost n e = absurd cc

less_greater_equal_next : (s n : State) → next s (Mark sign.Less) ≡ Some n → Stops (Mark sign.GreaterEqual) n
unfolding next sign_after
less_greater_equal_next (head f s) n e = absurd cc
less_greater_equal_next (inside f h c) n e =
    content_stops f h (Mark sign.GreaterEqual) (content_next c (Mark sign.Less)) n e (λ m q. content_is_token_machine.less_greater_equal c m q) (λ d. refl)
less_greater_equal_next lost n e = absurd cc

greater_next : (s n : State) → next s (Mark sign.Greater) ≡ Some n → Stops (Mark sign.Equal) n
unfolding next sign_after
greater_next (head f s) n e = absurd cc
greater_next (inside f h c) n e = content_stops f h (Mark sign.Equal) (content_next c (Mark sign.Greater)) n e (λ m q. content_is_token_machine.greater c m q) (λ d. refl)
greater_next lost n e = absurd cc

pub script_is_token_machine : IsTokenMachine next
script_is_token_machine = record {
  names = names_next;
  smaller = smaller_next;
  bounded = bounded_next;
  colon = colon_next;
  less_equal = less_equal_next;
  less_greater = less_greater_next;
  less_greater_equal = less_greater_equal_next;
  greater = greater_next;
}
