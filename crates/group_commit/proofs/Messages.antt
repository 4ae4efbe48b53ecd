-- What the inputs of a node since its opening sent, behind what it knew as sent then.
use Rattle.std.proofs.Common.{ℕ, ◌≡◌, ◌≤◌, List, [], ◌∷◌, ◌++◌, length, drop, sym, ap, ◌∙◌, append_assoc, subst, arith}
use Rattle.std.specs.List.{cons_option}
use Rattle.std.proofs.lemmas.List.{drop-append-le, length-append}
use Rattle.ring_records.specs.declared.input.Input.{Input}
use Rattle.ring_records.specs.declared.msg.Msg.{Msg}
use Rattle.ring_records.specs.declared.summary.Summary.{Summary}
use Rattle.ring_records.specs.Emission.{emit, sent}
use Rattle.ring_records.specs.Known.{after, sends}
use Rattle.ring_records.specs.Member.{Member}
use Rattle.ring_records.proofs.History.{sent-push}
use Rattle.ring_records.proofs.Known.{sends-known}
use Rattle.group_commit.proofs.Past.{Follows}

-- they are all that the history sent, from this number on
pub record AreSent (me first : ℕ) (messages : List Msg) (h : List Input) : Type 0 where
  pub is : messages ≡ drop first (sent me h)
  pub within : first ≤ length (sent me h)

pub sent-next : (m : Member) (opening : Summary) (past l : List Input) (x : Input) (first : ℕ) (messages : List Msg) → Follows m opening past l → AreSent m.node first messages (past ++ l)
    → AreSent m.node first (messages ++ cons_option (sends m.node (after m.node opening l) x) []) (past ++ (l ++ x ∷ []))
sent-next m opening past l x first messages follows so_far =
    let h = past ++ l in
    let on = cons_option (emit m.node h x) [] in
    let sends_on : sends m.node (after m.node opening l) x ≡ emit m.node h x = ap (λ (s : Summary). sends m.node s x) follows.knows ∙ sends-known m.node h x in
    let more : sent m.node (h ++ x ∷ []) ≡ sent m.node h ++ on = sent-push m.node h x in
    let size = length-append (sent m.node h) on in
    let within = so_far.within in
    subst (AreSent m.node first (messages ++ cons_option (sends m.node (after m.node opening l) x) [])) (append_assoc past l (x ∷ [])) (record {
      is = (λ i. so_far.is i ++ cons_option (sends_on i) []) ∙ (sym (drop-append-le first (sent m.node h) on within) ∙ ap (drop first) (sym more));
      within = subst (λ (s : List Msg). first ≤ length s) (sym more) (omega arith);
    })
