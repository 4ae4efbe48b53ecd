-- The bytes of an answer.
use Rattle.std.specs.Prelude.{ℕ, List, [], ◌++◌, length, codes, Option, Some, None}
use Rattle.std.specs.Fmt.{decimal}
use Rattle.httpdate.specs.Date.{date_text}
use Rattle.httpdate.specs.declared.date.HttpDate.{HttpDate}
use Rattle.ring_status.specs.declared.answer.Content.{Content}
use Rattle.ring_status.specs.declared.answer.Content.TheVariants.{Text, Json, Metrics, Page}
use Rattle.ring_status.specs.declared.request.Method.{Method}
use Rattle.ring_status.specs.declared.request.Method.TheVariants.{Get, Head}
use Rattle.ring_status.specs.declared.status.Status.{Status}
use Rattle.ring_status.specs.declared.status.Status.TheVariants as status

abbrev pub status_line : Status → List ℕ
status_line status.Found = codes "200 OK"
status_line status.NoContent = codes "204 No Content"
status_line status.BadRequest = codes "400 Bad Request"
status_line status.NotFound = codes "404 Not Found"
status_line status.NotAllowed = codes "405 Method Not Allowed"
status_line status.TooLarge = codes "431 Request Header Fields Too Large"
status_line status.Unavailable = codes "503 Service Unavailable"

abbrev pub content_text : Content → List ℕ
content_text Text = codes "text/plain; charset=utf-8"
content_text Json = codes "application/json"
content_text Metrics = codes "text/plain; version=0.0.4; charset=utf-8"
content_text Page = codes "text/html; charset=utf-8"

-- how long the body is, where the status has one
abbrev pub length_field : Status → ℕ → List ℕ
length_field status.NoContent bytes = []
length_field status.Found bytes = codes "Content-Length: " ++ decimal bytes ++ codes "\r\n"
length_field status.BadRequest bytes = codes "Content-Length: " ++ decimal bytes ++ codes "\r\n"
length_field status.NotFound bytes = codes "Content-Length: " ++ decimal bytes ++ codes "\r\n"
length_field status.NotAllowed bytes = codes "Content-Length: " ++ decimal bytes ++ codes "\r\n"
length_field status.TooLarge bytes = codes "Content-Length: " ++ decimal bytes ++ codes "\r\n"
length_field status.Unavailable bytes = codes "Content-Length: " ++ decimal bytes ++ codes "\r\n"

-- the field that a status has to have
abbrev pub field_of : Status → List ℕ
field_of status.Found = []
field_of status.NoContent = []
field_of status.BadRequest = []
field_of status.NotFound = []
field_of status.NotAllowed = codes "Allow: GET, HEAD\r\n"
field_of status.TooLarge = []
field_of status.Unavailable = []

unfoldable pub start_of : Status → Content → List ℕ
start_of status content = codes "HTTP/1.1 " ++ status_line status ++ codes "\r\nContent-Type: " ++ content_text content ++ codes "\r\n"

-- when it is answered, where there is a clock
abbrev pub date_field : Option HttpDate → List ℕ
date_field None = []
date_field (Some date) = codes "Date: " ++ date_text date ++ codes "\r\n"

unfoldable pub fields_of : Status → ℕ → Option HttpDate → List ℕ
fields_of status bytes date = length_field status bytes ++ field_of status ++ date_field date

unfoldable pub last_fields : List ℕ
last_fields = codes "Cache-Control: no-store\r\nConnection: close\r\n\r\n"

-- the head of an answer, whose body has so many bytes
abbrev pub head_text : Status → Content → ℕ → Option HttpDate → List ℕ
head_text status content bytes date = start_of status content ++ fields_of status bytes date ++ last_fields

-- what is sent of a body
abbrev pub sent : Method → List ℕ → List ℕ
sent Get body = body
sent Head body = []

unfoldable pub answer : Method → Status → Content → Option HttpDate → List ℕ → List ℕ
answer method status content date body = head_text status content (length body) date ++ sent method body
