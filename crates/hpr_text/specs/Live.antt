-- From every state of the machine of programs some tokens lead to the end.
--
-- x_text    == the name `x`
-- x_is_name == it is a name
-- live      == an open expression, or an index and its number, is brought to an end, open blocks are closed,
--              and then the program ends
use Rattle.std.proofs.Common.{◌≡◌, ℕ, true, List, [], ◌∷◌, Option, Some, None, is_some, refl, ap, ◌∙◌, lit<}
use Rattle.hpr_terms.specs.declared.keyword.Keyword.{Keyword}
use Rattle.hpr_terms.specs.declared.keyword.Keyword.TheVariants as keyword
use Rattle.hpr_terms.specs.declared.expr.Expr.{Expr}
use Rattle.hpr_terms.specs.declared.tag.Tag.{Tag}
use Rattle.hpr_terms.specs.declared.token.Sign.{Sign}
use Rattle.hpr_terms.specs.declared.token.Sign.TheVariants as sign
use Rattle.hpr_terms.specs.declared.token.Token.TheVariants.{Word, Name, Number, Mark}
use Rattle.hpr_terms.specs.Keywords.{keyword_of}
use Rattle.hpr_terms.specs.Names.{is_name_like, IsName, is_name, is_name_byte, stream}
use Rattle.hpr_syntax.specs.Action.{assigns, writes, stores}
use Rattle.hpr_scan.specs.Machine.{Live, ends, goes}
use Rattle.hpr_text.specs.declared.blocks.Begun.{Begun}
use Rattle.hpr_text.specs.declared.blocks.Begun.TheVariants as begun
use Rattle.hpr_expressions.specs.declared.expression.Reading.{Reading}
use Rattle.hpr_text.specs.declared.found.Found.{Found}
use Rattle.hpr_text.specs.declared.state.Purpose.{Purpose}
use Rattle.hpr_text.specs.declared.state.Purpose.TheVariants.{Assign, Test, Guard, Output, Store}
use Rattle.hpr_text.specs.declared.state.Place.{Place}
use Rattle.hpr_text.specs.declared.state.Place.TheVariants.{Start, AfterProgram, BeforePair, AfterPairAuthor, AfterPairColon, AfterPair, AtPart, AfterAuthor, AfterDot, AfterSerial, AfterColon, AfterTarget, InIndex, AfterIndex, InExpression, AfterEnd, AfterOpen, AfterName, AfterNameOpen, AfterFinal, AfterComma, AtEnd}
use Rattle.hpr_text.specs.declared.state.State.{State}
use Rattle.hpr_expressions.specs.Expression.{start, start_after, counted_in, read, ended, can_end}
use Rattle.hpr_expressions.specs.Laws.{reading_live}
use Rattle.hpr_text.specs.Laws.{goes_read, goes_in_index}
use Rattle.hpr_text.specs.Machine.{limit, with_number, with_tag, with_part, in_then, in_loop, fi_in, od_in, at_part, ends_parts, with_name, state_at, ends_here, next_at, next, may_end}

abbrev IsLive : State → Type 0
IsLive s = Live (next limit) may_end s

word : (s n : State) (k : Keyword) → next limit s (Word k) ≡ Some n → IsLive n → IsLive s
word s n k e h = goes (Word k) n tt e h

mark : (s n : State) (k : Sign) → next limit s (Mark k) ≡ Some n → IsLive n → IsLive s
mark s n k e h = goes (Mark k) n tt e h

abbrev pub x_text : List ℕ
x_text = 120 ∷ []

pub x_is_name : IsName x_text
unfolding is_name is_name_like is_name_byte keyword_of
x_is_name = refl

name_x : (s n : State) → next limit s (Name x_text) ≡ Some n → IsLive n → IsLive s
name_x s n e h = goes (Name x_text) n x_is_name e h

zero_next : (s n : State) → next limit s (Number 0) ≡ Some n → IsLive n → IsLive s
zero_next s n e h = goes (Number 0) n (lit< tt) e h

one_next : (s n : State) → next limit s (Number 1) ≡ Some n → IsLive n → IsLive s
one_next s n e h = goes (Number 1) n (lit< tt) e h

-- ---- the end

live_end : (f : Found) → IsLive (state_at f AtEnd)
live_end f = ends refl

live_open : (f : Found) → IsLive (state_at f AfterOpen)
unfolding next
live_open f = mark _ (state_at f AtEnd) sign.Close refl (live_end f)

live_name : (f : Found) (x : List ℕ) → IsLive (state_at f (AfterName x))
unfolding next
live_name f x = mark _ (state_at (with_name x f) AtEnd) sign.Close refl (live_end (with_name x f))

live_final : (f : Found) → IsLive (state_at f AfterFinal)
unfolding next
live_final f = mark _ (state_at f AtEnd) sign.Close refl (live_end f)

live_name_open : (f : Found) (a : List ℕ) → IsLive (state_at f (AfterNameOpen a))
unfolding next
live_name_open f a = mark _ (state_at (with_name a f) AfterFinal) sign.CloseSquare refl (live_final (with_name a f))

live_comma : (f : Found) → IsLive (state_at f AfterComma)
unfolding next
live_comma f = name_x _ (state_at f (AfterName x_text)) refl (live_name f x_text)

live_after_end : (f : Found) → IsLive (state_at f AfterEnd)
unfolding next
live_after_end f = mark _ (state_at f AfterOpen) sign.Open refl (live_open f)

-- ---- blocks

-- the places at which a block may end
record IsAtParts (p : Place) : Type 0 where
  end : (f : Found) → next_at limit f p (Word keyword.End) ≡ ends_parts f.blocks f
  fi : (f : Found) → next_at limit f p (Word keyword.Fi) ≡ at_part (fi_in limit f.blocks f)
  od : (f : Found) → next_at limit f p (Word keyword.Od) ≡ at_part (od_in limit f.blocks f)

at_parts : IsAtParts AtPart
at_parts = record { end = λ f. refl; fi = λ f. refl; od = λ f. refl }

live_parts : (os : List Begun) (f : Found) (p : Place) → IsAtParts p → f.blocks ≡ os → IsLive (state_at f p)
unfolding next
live_parts [] f p h e = word _ (state_at f AfterEnd) keyword.End (h.end f ∙ ap (λ (bs : List Begun). ends_parts bs f) e) (live_after_end f)
live_parts (begun.Then r ∷ os) f p h e = word _ _ keyword.Fi (h.fi f ∙ ap (λ (bs : List Begun). at_part (fi_in limit bs f)) e) (live_parts os _ AtPart at_parts refl)
live_parts (begun.Else r first ∷ os) f p h e = word _ _ keyword.Fi (h.fi f ∙ ap (λ (bs : List Begun). at_part (fi_in limit bs f)) e) (live_parts os _ AtPart at_parts refl)
live_parts (begun.Loop r ∷ os) f p h e = word _ _ keyword.Od (h.od f ∙ ap (λ (bs : List Begun). at_part (od_in limit bs f)) e) (live_parts os _ AtPart at_parts refl)

live_part : (f : Found) → IsLive (state_at f AtPart)
live_part f = live_parts f.blocks f AtPart at_parts refl

-- ---- expressions

live_ends : (f : Found) (p : Purpose) (r : Reading) (o : Option Expr) → ended r ≡ o → is_some o ≡ true → IsLive (state_at f (InExpression p r))
unfolding next
live_ends f p r None q e = absurd cc
live_ends f (Assign t x) r (Some v) q e = mark _ (state_at (with_part limit t (assigns x v) f) AtPart) sign.Semicolon (ap (ends_here limit f (Assign t x)) q) (live_part _)
live_ends f (Test t) r (Some v) q e = word _ (state_at (in_then t v f) AtPart) keyword.Then (ap (ends_here limit f (Test t)) q) (live_part _)
live_ends f (Guard t) r (Some v) q e = word _ (state_at (in_loop t v f) AtPart) keyword.Do (ap (ends_here limit f (Guard t)) q) (live_part _)
live_ends f (Output t) r (Some v) q e = mark _ (state_at (with_part limit t (writes stream v) f) AtPart) sign.Semicolon (ap (ends_here limit f (Output t)) q) (live_part _)
live_ends f (Store t a i) r (Some v) q e = mark _ (state_at (with_part limit t (stores a i v) f) AtPart) sign.Semicolon (ap (ends_here limit f (Store t a i)) q) (live_part _)

live_in : (f : Found) (p : Purpose) {r : Reading} → Live read can_end r → IsLive (state_at f (InExpression p r))
live_in f p (ends {s = r} e) = live_ends f p r (ended r) refl e
live_in f p (goes {s = r} t n h e k) = goes t (state_at f (InExpression p n)) h (goes_read limit f p r n t e) (live_in f p k)

live_reading : (f : Found) (p : Purpose) (r : Reading) → IsLive (state_at f (InExpression p r))
live_reading f p r = live_in f p (reading_live r)

-- ---- the index of a store

live_index : (f : Found) (t : Tag) (a : List ℕ) (i : Expr) (k : ℕ) → IsLive (state_at f (AfterIndex t a i k))
unfolding next
live_index f t a i k = mark _ (state_at f (InExpression (Store t a i) (start_after k))) sign.Becomes refl (live_reading f (Store t a i) (start_after k))

index_live_ends : (f : Found) (t : Tag) (a : List ℕ) (r : Reading) (o : Option Expr) → ended r ≡ o → is_some o ≡ true → IsLive (state_at f (InIndex t a r))
unfolding next
index_live_ends f t a r None q e = absurd cc
index_live_ends f t a r (Some i) q e = mark _ (state_at f (AfterIndex t a i (counted_in r))) sign.CloseSquare (rw q refl) (live_index f t a i (counted_in r))

index_live_in : (f : Found) (t : Tag) (a : List ℕ) {r : Reading} → Live read can_end r → IsLive (state_at f (InIndex t a r))
index_live_in f t a (ends {s = r} e) = index_live_ends f t a r (ended r) refl e
index_live_in f t a (goes {s = r} k n h e more) = goes k (state_at f (InIndex t a n)) h (goes_in_index limit f t a r n k e) (index_live_in f t a more)

-- ---- parts

live_target : (f : Found) (t : Tag) (x : List ℕ) → IsLive (state_at f (AfterTarget t x))
unfolding next
live_target f t x = mark _ (state_at f (InExpression (Assign t x) start)) sign.Becomes refl (live_reading f (Assign t x) start)

live_colon : (f : Found) (t : Tag) → IsLive (state_at f (AfterColon t))
unfolding next
live_colon f t = name_x _ (state_at f (AfterTarget t x_text)) refl (live_target f t x_text)

live_serial : (f : Found) (t : Tag) → IsLive (state_at f (AfterSerial t))
unfolding next
live_serial f t = mark _ (state_at f (AfterColon t)) sign.Colon refl (live_colon f t)

live_dot : (f : Found) (a : ℕ) → IsLive (state_at f (AfterDot a))
unfolding next
live_dot f a =
    let t : Tag = record { author = a; serial = 1 } in
    one_next _ (state_at (with_tag t f) (AfterSerial t)) refl (live_serial (with_tag t f) t)

live_author : (f : Found) (a : ℕ) → IsLive (state_at f (AfterAuthor a))
unfolding next
live_author f a = mark _ (state_at f (AfterDot a)) sign.Dot refl (live_dot f a)

-- ---- the header

live_pair : (f : Found) → IsLive (state_at f AfterPair)
live_pair f = live_parts f.blocks f AfterPair (record { end = λ g. refl; fi = λ g. refl; od = λ g. refl }) refl

live_pair_colon : (f : Found) (a : ℕ) → IsLive (state_at f (AfterPairColon a))
unfolding next
live_pair_colon f a = one_next _ (state_at (with_number a 1 f) AfterPair) refl (live_pair (with_number a 1 f))

live_pair_author : (f : Found) (a : ℕ) → IsLive (state_at f (AfterPairAuthor a))
unfolding next
live_pair_author f a = mark _ (state_at f (AfterPairColon a)) sign.Colon refl (live_pair_colon f a)

live_before_pair : (f : Found) → IsLive (state_at f BeforePair)
unfolding next
live_before_pair f = zero_next _ (state_at f (AfterPairAuthor 0)) refl (live_pair_author f 0)

live_program : (f : Found) → IsLive (state_at f AfterProgram)
live_program f = live_parts f.blocks f AfterProgram (record { end = λ g. refl; fi = λ g. refl; od = λ g. refl }) refl

live_start : (f : Found) → IsLive (state_at f Start)
unfolding next
live_start f = word _ (state_at f AfterProgram) keyword.Program refl (live_program f)

live_at : (f : Found) (p : Place) → IsLive (state_at f p)
live_at f Start = live_start f
live_at f AfterProgram = live_program f
live_at f BeforePair = live_before_pair f
live_at f (AfterPairAuthor a) = live_pair_author f a
live_at f (AfterPairColon a) = live_pair_colon f a
live_at f AfterPair = live_pair f
live_at f AtPart = live_part f
live_at f (AfterAuthor a) = live_author f a
live_at f (AfterDot a) = live_dot f a
live_at f (AfterSerial t) = live_serial f t
live_at f (AfterColon t) = live_colon f t
live_at f (AfterTarget t x) = live_target f t x
live_at f (InIndex t a r) = index_live_in f t a (reading_live r)
live_at f (AfterIndex t a i k) = live_index f t a i k
live_at f (InExpression p r) = live_reading f p r
live_at f AfterEnd = live_after_end f
live_at f AfterOpen = live_open f
live_at f (AfterName x) = live_name f x
live_at f (AfterNameOpen a) = live_name_open f a
live_at f AfterFinal = live_final f
live_at f AfterComma = live_comma f
live_at f AtEnd = live_end f

pub live : (s : State) → Live (next limit) may_end s
live s = live_at s.found s.place
