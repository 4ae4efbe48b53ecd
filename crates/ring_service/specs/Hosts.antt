-- Where on a host ports are listened at.
use Rattle.std.specs.Prelude.{ℕ, List, ◌≡◌, ◌⊎◌, ◌-◌, length, take, drop}
use Rattle.std.specs.Net.Grammar.{IsIpText}
use Rattle.std.specs.declared.net.ip_addr.IpAddr.{IpAddr}
use Rattle.ring_service.specs.declared.host.Host.{Host}
use Rattle.ring_service.specs.declared.host.Host.TheVariants as of

-- what stands between the first and the last byte
abbrev pub inner_of : List ℕ → List ℕ
inner_of text = take (length (drop 1 text) - 1) (drop 1 text)

-- The text, or what is between its brackets, spells this address; or it is this name, and no address.
abbrev pub IsHost : List ℕ → Host → Type 0
IsHost text (of.Address address) = IsIpText text address ⊎ IsIpText (inner_of text) address
IsHost text (of.Name name) = (name.now ≡ text) × ((address : IpAddr) → IsIpText text address → ⊥)
