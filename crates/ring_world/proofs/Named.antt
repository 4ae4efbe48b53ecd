-- What is announced was released.
use Rattle.std.proofs.Common.{ℕ, ◌≡◌, ◌+◌, ◌<◌, length, take, get_or, [], ◌∷◌, ◌++◌, List, Option, Some, None, sym, ap, ◌∙◌}
use Rattle.std.specs.List.{Contains, filter_map, cons_option}
use Rattle.std.proofs.lemmas.List.{take_more}
use Rattle.std.proofs.lemmas.List.Elements.{filter_map-append}
use Rattle.std.proofs.lemmas.Option.{same_Some}
use Rattle.ring_records.specs.declared.candidate.Candidate.{Candidate}
use Rattle.ring_records.specs.declared.key.Key.{Key}
use Rattle.ring_records.proofs.Lists.{none≢some}
use Rattle.ring_records.proofs.Leader.{Contains-filter_map_from}
use Rattle.ring_world.specs.declared.announced.Announced.{Announced}
use Rattle.ring_world.specs.Announced.{announced_with, announced_by, announced}
use Rattle.ring_world.specs.Events.{Replied, Sent, Shown, Action, Submit, Launch, LaunchAll, Land, Release, Crash}
use Rattle.ring_world.specs.Released.{named_by, named, IsAnnounced}

-- ---- what a leader that is named was released by

with_is : (node : ℕ) (o : Option (Key × Candidate)) (x : Announced) → announced_with node o ≡ Some x → o ≡ Some (x.key, x.leader)
with_is node None x e = none≢some _ e
with_is node (Some led) x e = ap (λ (y : Announced). Some (y.key, y.leader)) (same_Some _ _ e)

by_is : (events : List (ℕ × Action)) (e : ℕ × Action) (x : Announced) → Contains events e → announced_by e ≡ Some x → IsAnnounced events x.key x.leader
unfolding named announced_by
by_is events (node, Submit question) x p q = none≢some _ q
by_is events (node, Launch) x p q = none≢some _ q
by_is events (node, LaunchAll layout) x p q = none≢some _ q
by_is events (node, Land) x p q = none≢some _ q
by_is events (node, Release (Replied a)) x p q = record { node = node; thing = Replied a; released = p; names = with_is node (named_by a.question a.answer.reply) x q }
by_is events (node, Release (Sent packet)) x p q = none≢some _ q
by_is events (node, Release (Shown key leader)) x p q = none≢some _ q
by_is events (node, Crash keeps_flying) x p q = none≢some _ q

pub announced_is : (events : List (ℕ × Action)) (x : Announced) → Contains (announced events) x → IsAnnounced events x.key x.leader
announced_is events x p = let r = Contains-filter_map_from announced_by events x p in by_is events r.0 x r.1 r.2

-- with one event more
pub announced_more : (events : List (ℕ × Action)) (i : ℕ) (e : ℕ × Action) (o : Option Announced) → i < length events → e ≡ get_or events i e → o ≡ announced_by e
    → filter_map announced_by (take (i + 1) events) ≡ filter_map announced_by (take i events) ++ cons_option o []
announced_more events i e o lt is found =
    ap (filter_map announced_by) (take_more events i e lt) ∙ (filter_map-append announced_by (take i events) (get_or events i e ∷ [])
    ∙ (ap (λ y. filter_map announced_by (take i events) ++ cons_option (announced_by y) []) (sym is) ∙ ap (λ y. filter_map announced_by (take i events) ++ cons_option y []) (sym found)))
