-- What a node does in return for what it takes: the other half of what holds of a lawful history, for one key that is not
-- retired there.
use Rattle.std.proofs.Common.{ℕ, ◌≡◌, ◌≢◌, true, false, List, [], ◌∷◌, ◌++◌, Option, Some, None, refl, sym, ap, ◌∙◌, inl, inr}
use Rattle.std.specs.Prelude.{is_some}
use Rattle.std.specs.List.{Contains}
use Rattle.ring_records.specs.declared.candidate.Candidate.{Candidate}
use Rattle.ring_records.specs.declared.key.Key.{Key}
use Rattle.ring_records.specs.declared.msg.Msg.{Msg}
use Rattle.ring_records.specs.declared.msg.Msg.TheVariants.{Token, Elected}
use Rattle.ring_records.specs.declared.input.Input.{Input}
use Rattle.ring_records.specs.Lists.{or_else, first, found_after, EachAfter}
use Rattle.ring_records.specs.Emission.{is_below, emit, sent}
use Rattle.ring_records.specs.History.{is_retired, is_named, bid_for, first_stand, message_of, taken}
use Rattle.ring_records.specs.Leader.{makes_leader, first_leader}
use Rattle.ring_records.specs.Message.{key_of}
use Rattle.ring_records.specs.Allowed.{IsAllowed}
use Rattle.ring_records.proofs.FloorsRise.{floor-rises, live-before}
use Rattle.ring_records.proofs.Inputs.{bid_for-message, bid_for-some}
use Rattle.ring_records.proofs.Lists.{along, none≢some, Contains-option_kept, Contains-option_new}
use Rattle.ring_records.proofs.History.{first_stand-push, first_leader-push, sent-push}
use Rattle.ring_records.proofs.Emission.{IsLeadCause, makes_leader-tells, emit-own, emit-passes, emit-announces, makes_leader-at}
use Rattle.ring_records.proofs.OneKey.{KeyFacts, KeyFacts-next, KeyFacts-start, none_in, or_else-cases, taken-cases, stood-same, touched-settled}

pub record Replies (me : ℕ) (key : Key) (h : List Input) : Type 0 where
  pub facts : KeyFacts me key h
  pub own : (b : ℕ) → first_stand h key ≡ Some b → Contains (sent me h) (Token key (record { bid = b; node = me }))
  pub passes : (c : Candidate) → Contains (taken h) (Token key c) → c.node ≢ me → is_below (first_stand h key) me c ≡ true → Contains (sent me h) (Token key c)
  pub homes : (c : Candidate) → Contains (taken h) (Token key c) → c.node ≡ me → first_stand h key ≡ Some c.bid → is_some (first_leader me h key) ≡ true
  pub hears : (c : Candidate) → Contains (taken h) (Elected key c) → c.node ≢ me → is_some (first_leader me h key) ≡ true
  pub announces : (c : Candidate) → first_leader me h key ≡ Some c → Contains (sent me h) (Elected key c)

or_else-is_some : {A : Type 0} (o p : Option A) → is_some o ≡ true → is_some (or_else o p) ≡ true
or_else-is_some None p e = cc
or_else-is_some (Some x) p e = refl

or_else-new : {A : Type 0} (o p : Option A) (x : A) → p ≡ Some x → is_some (or_else o p) ≡ true
or_else-new None p x e = ap is_some e
or_else-new (Some y) p x e = refl

module _ (me n : ℕ) (key : Key) (h : List Input) (x : Input) (a : IsAllowed me n h x) (f : Replies me key h) (live : is_retired h key ≡ false) where
  sent-more : (m : Msg) → Contains (sent me h) m → Contains (sent me (h ++ x ∷ [])) m
  sent-more m p = rw sent-push (Contains-option_kept (sent me h) (emit me h x) m p)

  sent-new : (m : Msg) → emit me h x ≡ Some m → Contains (sent me (h ++ x ∷ [])) m
  sent-new m e = rw sent-push (Contains-option_new (sent me h) (emit me h x) m e)

  leads-more : is_some (first_leader me h key) ≡ true → is_some (first_leader me (h ++ x ∷ []) key) ≡ true
  leads-more e = ap is_some (first_leader-push me h x key) ∙ or_else-is_some (first_leader me h key) (makes_leader me key h x) e

  leads-new : (c : Candidate) → IsLeadCause me key c h x → is_some (first_leader me (h ++ x ∷ []) key) ≡ true
  leads-new c k = ap is_some (first_leader-push me h x key) ∙ or_else-new (first_leader me h key) (makes_leader me key h x) c (makes_leader-at me key c h x k)

  -- a node that took a message for the key has its bid still
  bid-kept : (m : Msg) → key_of m ≡ key → Contains (taken h) m → first_stand (h ++ x ∷ []) key ≡ first_stand h key
  bid-kept m e p = touched-settled me n key h x a (ap (is_named h) (sym e) ∙ f.facts.touch m p)

  bid-same : (m : Msg) → message_of x ≡ Some m → first_stand (h ++ x ∷ []) key ≡ first_stand h key
  bid-same m e = stood-same me n key h x (bid_for-message key x m e)

  own-next : (b : ℕ) → first_stand (h ++ x ∷ []) key ≡ Some b → Contains (sent me (h ++ x ∷ [])) (Token key (record { bid = b; node = me }))
  own-next b e = elim (or_else-cases (first_stand h key) (bid_for key x) b (sym (first_stand-push h x key) ∙ e)) [
    | inl p ↦ sent-more (Token key (record { bid = b; node = me })) (f.own b p)
    | inr p ↦ sent-new (Token key (record { bid = b; node = me })) (emit-own me key b h x (bid_for-some key x b p.1))
  ]

  passes-next : (c : Candidate) → Contains (taken (h ++ x ∷ [])) (Token key c) → c.node ≢ me → is_below (first_stand (h ++ x ∷ []) key) me c ≡ true
      → Contains (sent me (h ++ x ∷ [])) (Token key c)
  passes-next c t ne below = elim (taken-cases me n key h x (Token key c) t) [
    | inl p ↦ sent-more (Token key c) (f.passes c p ne (ap (λ o. is_below o me c) (sym (bid-kept (Token key c) refl p)) ∙ below))
    | inr e ↦ sent-new (Token key c) (emit-passes me key c h x e live ne (ap (λ o. is_below o me c) (sym (bid-same (Token key c) e)) ∙ below))
  ]

  homes-next : (c : Candidate) → Contains (taken (h ++ x ∷ [])) (Token key c) → c.node ≡ me → first_stand (h ++ x ∷ []) key ≡ Some c.bid
      → is_some (first_leader me (h ++ x ∷ []) key) ≡ true
  homes-next c t home bid = elim (taken-cases me n key h x (Token key c) t) [
    | inl p ↦ leads-more (f.homes c p home (sym (bid-kept (Token key c) refl p) ∙ bid))
    | inr e ↦ leads-new c (inl (e, home, sym (bid-same (Token key c) e) ∙ bid))
  ]

  hears-next : (c : Candidate) → Contains (taken (h ++ x ∷ [])) (Elected key c) → c.node ≢ me → is_some (first_leader me (h ++ x ∷ []) key) ≡ true
  hears-next c t ne = elim (taken-cases me n key h x (Elected key c) t) [
    | inl p ↦ leads-more (f.hears c p ne)
    | inr e ↦ leads-new c (inr (e, ne))
  ]

  announces-next : (c : Candidate) → first_leader me (h ++ x ∷ []) key ≡ Some c → Contains (sent me (h ++ x ∷ [])) (Elected key c)
  announces-next c e = elim (or_else-cases (first_leader me h key) (makes_leader me key h x) c (sym (first_leader-push me h x key) ∙ e)) [
    | inl p ↦ sent-more (Elected key c) (f.announces c p)
    | inr p ↦ sent-new (Elected key c) (emit-announces me key c h x (makes_leader-tells me key c h x p.1) live p.0)
  ]

  Replies-next : Replies me key (h ++ x ∷ [])
  Replies-next = record {
    facts = KeyFacts-next me n key h x a f.facts;
    own = own-next;
    passes = passes-next;
    homes = homes-next;
    hears = hears-next;
    announces = announces-next;
  }

Replies-start : (me : ℕ) (key : Key) → Replies me key []
unfolding taken first_stand sent first_leader first found_after
Replies-start me key = record {
  facts = KeyFacts-start me key;
  own = λ b e. none≢some b e;
  passes = λ c p. none_in _ p;
  homes = λ c p. none_in _ p;
  hears = λ c p. none_in _ p;
  announces = λ c e. none≢some c e;
}

-- a key that is not retired never was
pub allowed_replies : (me n : ℕ) (key : Key) (h : List Input) → EachAfter (IsAllowed me n) [] h → is_retired h key ≡ false → Replies me key h
allowed_replies me n key h each live =
    along (IsAllowed me n) (λ g. is_retired g key ≡ false → Replies me key g)
    (λ g x a f now. let before = live-before g (g ++ x ∷ []) key (floor-rises me n g x a key.group) now in Replies-next me n key g x a (f before) before)
    [] h each (λ _. Replies-start me key) live
