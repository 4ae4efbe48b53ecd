-- By what code a proof tells summaries apart: that of the tuple of their fields.
use Rattle.std.specs.Prelude.{ℕ, ◌≡◌, Bool, true, false, List, refl}
use Rattle.std.specs.Coded.{Coded, code_by, coded×, coded_ℕ, coded_bool, coded_list}
use Rattle.std.specs.FinMap as map
use Rattle.ring_records.specs.declared.candidate.Candidate.{Candidate}
use Rattle.ring_records.specs.declared.key.Key.{Key}
use Rattle.ring_records.specs.declared.key_state.KeyState.{KeyState}
use Rattle.ring_records.specs.declared.msg.Msg.{Msg}
use Rattle.ring_records.specs.declared.msg.Msg.TheVariants.{Token, Elected}
use Rattle.ring_records.specs.declared.summary.Summary.{Summary}
use Rattle.ring_records.specs.KeyOrder.{key_cmp, group_cmp}
use Rattle.ring_records.specs.Coded.{coded_key, coded_group, coded_candidate, coded_state}

abbrev split : Msg → Bool × (Key × Candidate)
split (Token key candidate) = (true, (key, candidate))
split (Elected key candidate) = (false, (key, candidate))

abbrev join : Bool × (Key × Candidate) → Msg
join (true, (key, candidate)) = Token key candidate
join (false, (key, candidate)) = Elected key candidate

pub join-split : (msg : Msg) → join (split msg) ≡ msg
join-split (Token key candidate) = refl
join-split (Elected key candidate) = refl

abbrev pub coded_msg : Coded Msg
coded_msg = code_by (Bool × (Key × Candidate)) (coded× coded_bool (coded× coded_key coded_candidate)) split join join-split

abbrev pub coded_summary : Coded Summary
coded_summary = code_by (((ℕ × ℕ) × (ℕ × ℕ)) × (ℕ × (map.FinMap key_cmp KeyState × (List Msg × map.FinMap group_cmp ℕ))))
    (coded× (coded× (coded× coded_ℕ coded_ℕ) (coded× coded_ℕ coded_ℕ)) (coded× coded_ℕ (coded× (map.code coded_key coded_state) (coded× (coded_list coded_msg) (map.code coded_group coded_ℕ)))))
    (λ s. (((s.inputs, s.taken), (s.credit, s.sent)), (s.stands, (s.keys, (s.window, s.floors)))))
    (λ p. record { inputs = p.0.0.0; taken = p.0.0.1; credit = p.0.1.0; sent = p.0.1.1; stands = p.1.0; keys = p.1.1.0; window = p.1.1.1.0; floors = p.1.1.1.1 })
    (λ _. refl)
