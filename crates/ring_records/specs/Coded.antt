-- Keys and their states as codes, by which they are compared in contracts.
use Rattle.std.specs.Prelude.{ℕ, List, refl, Option}
use Rattle.std.specs.Coded.{Coded, code_by, coded×, coded_list, coded_ℕ, coded_option}
use Rattle.ring_records.specs.declared.key.Key.{Key}
use Rattle.ring_records.specs.declared.candidate.Candidate.{Candidate}
use Rattle.ring_records.specs.declared.key_state.KeyState.{KeyState}

abbrev pub coded_group : Coded (List ℕ)
coded_group = coded_list coded_ℕ

-- a key as its bytes and its number
abbrev pub coded_key : Coded Key
coded_key = code_by (List ℕ × ℕ) (coded× coded_group coded_ℕ) (λ key. (key.group, key.term)) (λ p. record { group = p.0; term = p.1 }) (λ _. refl)

abbrev pub coded_candidate : Coded Candidate
coded_candidate = code_by (ℕ × ℕ) (coded× coded_ℕ coded_ℕ) (λ c. (c.bid, c.node)) (λ p. record { bid = p.0; node = p.1 }) (λ _. refl)

abbrev pub coded_state : Coded KeyState
coded_state = code_by (Key × (Option ℕ × Option Candidate)) (coded× coded_key (coded× (coded_option coded_ℕ) (coded_option coded_candidate)))
    (λ s. (s.key, (s.stood, s.leader))) (λ p. record { key = p.0; stood = p.1.0; leader = p.1.1 }) (λ _. refl)
