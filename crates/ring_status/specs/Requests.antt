-- What the head of a request asks.
use Rattle.std.specs.Prelude.{◌≡◌, ◌⊎◌, ℕ, if◌then◌else◌, List, codes, Result, Ok, Err}
use Rattle.std.specs.Str.{bytes_eq}
use Rattle.httparse.specs.Grammar.{NeverHasRequest, ReadsRequest, RequestHead}
use Rattle.httparse.specs.Spans.{RequestOverflows}
use Rattle.ring_status.specs.Targets.{target_of}
use Rattle.ring_status.specs.declared.request.Method.{Method}
use Rattle.ring_status.specs.declared.request.Method.TheVariants.{Get, Head}
use Rattle.ring_status.specs.declared.request.HttpRequest.{HttpRequest}
use Rattle.ring_status.specs.declared.target.Target.{Target}
use Rattle.ring_status.specs.declared.status.Status.{Status}
use Rattle.ring_status.specs.declared.status.Status.TheVariants as status

abbrev pub method_of : List ℕ → Result Method Status
method_of method =
    if bytes_eq method (codes "GET") then Ok Get
    else if bytes_eq method (codes "HEAD") then Ok Head
    else Err status.NotAllowed

abbrev pub with_target : Result Method Status → Result Target Status → Result HttpRequest Status
with_target (Err why) target = Err why
with_target (Ok method) (Err why) = Err why
with_target (Ok method) (Ok target) = Ok (record { method = method; target = target })

-- its method, and then its target
abbrev pub request_of : List ℕ → List ℕ → Result HttpRequest Status
request_of method target = with_target (method_of method) (target_of target)

-- what is asked is not answered
pub record IsUnmet (bytes : List ℕ) (why : Status) : Type 0 where
  pub head : RequestHead
  pub rest : List ℕ
  pub reads : ReadsRequest bytes head rest
  pub refused : request_of head.method head.target ≡ Err why

-- or whatever follows is no head, or has more than 64 fields
abbrev pub IsRefused : List ℕ → Status → Type 0
IsRefused bytes why =
    IsUnmet bytes why ⊎ (((why ≡ status.BadRequest) × NeverHasRequest bytes) ⊎ ((why ≡ status.TooLarge) × RequestOverflows 64 bytes))
