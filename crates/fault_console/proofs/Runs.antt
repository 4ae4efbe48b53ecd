-- Runs: what lines may print, one after the other.
use Rattle.std.proofs.Common.{◌≡◌, ℕ, ◌≤◌, Bool, true, false, List, [], ◌∷◌, ◌++◌, length, map, refl, sym, ap, ◌∙◌, arith, append_assoc, append-nil, subst, Ok, Err, Some, None, Option}
use Rattle.std.proofs.lemmas.List.{length-append}
use Rattle.std.specs.Prelude.{Result, MatchBool}
use Rattle.ring_records.specs.Lists.{or_else}
use Rattle.ring_records.specs.Texts.{refusal_text}
use Rattle.ring_records.specs.declared.refusal.Refusal.{Refusal}
use Rattle.ring_records.specs.declared.reply.Reply.{Reply}
use Rattle.ring_records.specs.declared.request.Request.{Request}
use Rattle.ring_world.specs.Ring.{carried}
use Rattle.ring_world.specs.Dropped.{withheld}
use Rattle.ring_world.specs.State.{State, opened}
use Rattle.ring_world.specs.Step.{Told, Steps, stepped, submitted, put, unknown, spent, no_node, all_told, objection_to, refusal_of}
use Rattle.ring_world.specs.declared.event.Event.{Event}
use Rattle.ring_world.specs.declared.event.Event.TheVariants.{Submit, Flush, Deliver, DeliverAll, Credit, Crash, Stop, Checkpoint, StopCheckpoint}
use Rattle.line_words.specs.Forms.{line_says}
use Rattle.fault_console.specs.Commands.{is_silent, shapes, commands}
use Rattle.fault_console.specs.declared.commands.ConsoleCommand.{ConsoleCommand}
use Rattle.fault_console.specs.declared.commands.ConsoleCommand.TheVariants as ask
use Rattle.fault_console.specs.declared.commands.RingShape.{RingShape}
use Rattle.fault_console.specs.Script.{Prints, LinePrints, Answers, Opens, Happens, Shows, Audits, Obeys, ring_line, reply_line, sealed_of, sealed_lines, asked_lines, lines_told, show_line, shown_at, unshown, audit_line, placed_of, MayPrint}

-- a run goes on with a run
pub MayPrint-append : (s t u : Option State) (xs ys out more : List (List ℕ)) → MayPrint s xs out t → MayPrint t ys more u → MayPrint s (xs ++ ys) (out ++ more) u
MayPrint-append s t u [] ys out more (none, same) h =
    subst (λ o. MayPrint s ys (o ++ more) u) (sym none) (subst (λ v. MayPrint v ys more u) same h)
MayPrint-append s t u (x ∷ xs) ys out more (first, mid, later, prints, e, rest) h =
    (first, mid, later ++ more, prints, ap (λ o. o ++ more) e ∙ append_assoc first later more, MayPrint-append mid t u xs ys later more rest h)

-- one line is a run
pub MayPrint-one : (s t : Option State) (line : List ℕ) (out : List (List ℕ)) → LinePrints s line out t → MayPrint s (line ∷ []) out t
MayPrint-one s t line out prints = (out, t, [], prints, sym (append-nil out), (refl, refl))

-- ---- any lines have a run

abbrev Goes : Prints → Type 0
Goes P = (out : List (List ℕ)) × (next : Option State) × P out next

opens : (r : Result RingShape Refusal) → Goes (Opens r)
opens (Err refusal) = (refusal_text refusal ∷ [], None, (refl, refl))
opens (Ok shape) = (ring_line shape.nodes ∷ [], Some (opened shape.nodes shape.eager shape.capacity), (refl, refl))

-- here the world has to go on after any event
happens : (w : State) (event : Event) (refusal : Option Refusal) → Goes (Happens w event refusal)
unfolding Steps
happens w event (Some refusal) = (refusal_text refusal ∷ [], Some w, (refl, refl))
happens w event None =
    let next = all_told (stepped false w event) in
    (lines_told event next.0, Some next.1, (next.0, next.1, (false, refl), refl, refl))

shows : (w : State) (node : ℕ) (refusal : Option Refusal) → Goes (Shows w node refusal)
shows w node (Some refusal) = (refusal_text refusal ∷ [], Some w, (refl, refl))
shows w node None = (show_line node (shown_at w node) ∷ [], Some w, (refl, refl))

audits : (w : State) (refusal : Option Refusal) → Goes (Audits w refusal)
audits w (Some refusal) = (refusal_text refusal ∷ [], Some w, (refl, refl))
audits w None = (audit_line (placed_of w) ∷ [], Some w, (refl, refl))

obeys : (w : State) (r : Result ConsoleCommand Refusal) → Goes (Obeys w r)
obeys w (Err refusal) = (refusal_text refusal ∷ [], Some w, (refl, refl))
obeys w (Ok (ask.Event event)) = happens w event (refusal_of w event)
obeys w (Ok (ask.Show node)) = shows w node (unshown w node)
obeys w (Ok ask.Audit) = audits w (withheld w)

answers : (ring : Option State) (line : List ℕ) → Goes (Answers ring line)
answers None line = opens (line_says shapes line)
answers (Some w) line = obeys w (line_says (commands w.ring.size) line)

prints_some : (ring : Option State) (line : List ℕ) → Goes (LinePrints ring line)
unfolding LinePrints
prints_some ring line = by_silence (is_silent line)
  where
    by_silence : (silent : Bool) → Goes (λ out next. MatchBool silent ((out ≡ []) × (next ≡ ring)) (Answers ring line out next))
    by_silence true = ([], ring, (refl, refl))
    by_silence false = answers ring line

pub some_run : (ring : Option State) (lines : List (List ℕ)) → Goes (MayPrint ring lines)
some_run ring [] = ([], ring, (refl, refl))
some_run ring (line ∷ lines) =
    let one = prints_some ring line in
    let others = some_run one.1 lines in
    (one.0 ++ others.0, others.1, (one.0, one.1, others.0, one.2, refl, others.2))

-- ---- a line that is not silent prints a line or more

one_line : (out : List (List ℕ)) (line : List ℕ) → out ≡ line ∷ [] → 1 ≤ length out
one_line out line e = omega (arith, ap length e)

-- a ticket that was taken has a reply, or is sealed
asked_some : (ticket : ℕ) (replies : List (ℕ × Reply)) → 1 ≤ length (map reply_line replies ++ sealed_lines (sealed_of (Some ticket) replies))
asked_some ticket [] = omega arith
asked_some ticket (reply ∷ replies) = omega arith

last_some : (xs : List (List ℕ)) (line : List ℕ) → 1 ≤ length (xs ++ (line ∷ []))
last_some xs line = omega (arith, length-append xs (line ∷ []))

-- a message that is delivered is one that was released
put_some : (w : State) (delivery : Option (ℕ × Request)) (a b full : Option Refusal) → or_else a (or_else (or_else b (or_else (unknown delivery) (spent w))) full) ≡ None
    → 1 ≤ length (asked_lines (put w delivery).0)
unfolding submitted
put_some w (Some delivery) a b full free = asked_some _ _
put_some w None (Some r) b full free = cc
put_some w None None (Some r) full free = cc
put_some w None None None full free = cc

event_some : (keeps_flying : Bool) (w : State) (event : Event) → refusal_of w event ≡ None → 1 ≤ length (lines_told event (stepped keeps_flying w event).0)
unfolding stepped submitted refusal_of objection_to
event_some keeps_flying w (Submit node q) free = asked_some _ _
event_some keeps_flying w (Flush node) free = omega arith
event_some keeps_flying w (Deliver from message) free = put_some w (carried w.ring from message) _ (no_node w from) _ free
event_some keeps_flying w DeliverAll free = omega arith
event_some keeps_flying w (Credit from upto) free = asked_some _ _
event_some keeps_flying w (Crash node) free = last_some _ _
event_some keeps_flying w (Stop node call tear) free = last_some _ _
event_some keeps_flying w (Checkpoint node) free = omega arith
event_some keeps_flying w (StopCheckpoint node call tear) free = last_some _ _

happens_some : (w : State) (event : Event) (r : Option Refusal) (out : List (List ℕ)) (next : Option State) → refusal_of w event ≡ r → Happens w event r out next → 1 ≤ length out
unfolding Steps
happens_some w event (Some refusal) out next is h = one_line out _ h.0
happens_some w event None out next free (o, v, (keeps_flying, step), e, same) =
    let told : o ≡ (stepped keeps_flying w event).0 = ap (λ (p : Told × State). p.0) step in
    subst (λ l. 1 ≤ length l) (sym e) (subst (λ t. 1 ≤ length (lines_told event t)) (sym told) (event_some keeps_flying w event free))

shows_some : (w : State) (node : ℕ) (r : Option Refusal) (out : List (List ℕ)) (next : Option State) → Shows w node r out next → 1 ≤ length out
shows_some w node (Some refusal) out next h = one_line out _ h.0
shows_some w node None out next h = one_line out _ h.0

audits_some : (w : State) (r : Option Refusal) (out : List (List ℕ)) (next : Option State) → Audits w r out next → 1 ≤ length out
audits_some w (Some refusal) out next h = one_line out _ h.0
audits_some w None out next h = one_line out _ h.0

opens_some : (r : Result RingShape Refusal) (out : List (List ℕ)) (next : Option State) → Opens r out next → 1 ≤ length out
opens_some (Err refusal) out next h = one_line out _ h.0
opens_some (Ok shape) out next h = one_line out _ h.0

obeys_some : (w : State) (r : Result ConsoleCommand Refusal) (out : List (List ℕ)) (next : Option State) → Obeys w r out next → 1 ≤ length out
obeys_some w (Err refusal) out next h = one_line out _ h.0
obeys_some w (Ok (ask.Event event)) out next h = happens_some w event (refusal_of w event) out next refl h
obeys_some w (Ok (ask.Show node)) out next h = shows_some w node (unshown w node) out next h
obeys_some w (Ok ask.Audit) out next h = audits_some w (withheld w) out next h

answers_some : (ring : Option State) (line : List ℕ) (out : List (List ℕ)) (next : Option State) → Answers ring line out next → 1 ≤ length out
answers_some None line out next h = opens_some (line_says shapes line) out next h
answers_some (Some w) line out next h = obeys_some w (line_says (commands w.ring.size) line) out next h

pub prints_a_line : (ring : Option State) (line : List ℕ) (out : List (List ℕ)) (next : Option State) → is_silent line ≡ false → LinePrints ring line out next → 1 ≤ length out
unfolding LinePrints
prints_a_line ring line out next speaks h =
    answers_some ring line out next (subst (λ b. MatchBool b ((out ≡ []) × (next ≡ ring)) (Answers ring line out next)) speaks h)
