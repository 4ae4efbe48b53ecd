-- The words of ringd.
use Rattle.std.specs.Prelude.{ℕ, Bool, true, false, ◌≡◌, ◌<◌, ◌≤◌, List, [], ◌∷◌, Option, Some, None, Ok, IfSome, IsSomeAnd, pos, unwrap_or, codes}
use Rattle.std.specs.Str.Parse.{IsNumeral, digits_value, without_leading_plus}
use Rattle.ring_records.specs.declared.limits.TheConstants.{DOORS}
use Rattle.hex.specs.Hex.{decode_of}
use Rattle.folder_plan.specs.declared.identity.Identity.{Identity}
use Rattle.log_lines.specs.declared.form.LogForm.{LogForm}
use Rattle.log_lines.specs.Forms.{form_name}
use Rattle.clap.specs.Words.{App, HasMatchesOf, Rule, first_value, found_of, new_app, new_rule, one_text, with_rule}
use Rattle.clap.specs.declared.builder.action.ArgAction.TheVariants.{SetTrue}
use Rattle.clap.specs.declared.builder.value_parser.ValueParser.TheVariants as parser
use Rattle.clap.specs.declared.parser.matches.ArgMatches.{ArgMatches}
use Rattle.ring_service.specs.Hosts.{IsHost}
use Rattle.ring_service.specs.declared.words.Words.{Words}

-- `--settings PATH`, which is `-` where it is not given
abbrev pub settings_rule : Rule
settings_rule = record (new_rule (codes "settings")) { long = Some (codes "settings"); value_names = 1; defaults = codes "-" ∷ [] }

-- `--listen HOST`, which is 127.0.0.1 where it is not given
abbrev pub listen_rule : Rule
listen_rule = record (new_rule (codes "listen")) { long = Some (codes "listen"); value_names = 1; defaults = codes "127.0.0.1" ∷ [] }

-- `--NAME N`, of the numbers of this range
abbrev pub number_rule : List ℕ → ℕ → ℕ → Rule
number_rule name low high = record (new_rule name) { long = Some name; value_names = 1; parser = Some (parser.Signed (pos low) (pos high)) }

-- `--NAME`, which takes no value
abbrev pub flag_rule : List ℕ → Rule
flag_rule name = record (new_rule name) { long = Some name; action = Some SetTrue }

-- `--always`, a flag that is not free of the other words: it may not stand beside `--serve`
abbrev pub always_rule : Rule
always_rule = record (flag_rule (codes "always")) { is_free = false }

-- `--NAME`, a flag that may not stand beside another word, nor beside `--serve` or `--always`: `--make`, which stands beside no
-- `--existing`, and `--check`, which stands beside no `--make`
abbrev pub alone_rule : List ℕ → Rule
alone_rule name = record (flag_rule name) { is_free = false }

-- `--NAME TEXT`
abbrev pub text_rule : List ℕ → Rule
text_rule name = record (new_rule name) { long = Some name; value_names = 1 }

-- the same with a version, so that `--version` and `-V` are words too
abbrev pub with_version : App → App
with_version app = record app { top = record app.top { has_version = true } }

-- the command: the words that say which settings, and for how long; what is done with the folder; how clients are served;
-- where, and of which ring; and what is told
abbrev pub with_service : App → App
with_service app = with_rule (with_rule (with_rule app settings_rule) (number_rule (codes "serve") 1 1000)) always_rule

abbrev pub with_works : App → App
with_works app = with_rule (with_rule app (alone_rule (codes "make"))) (alone_rule (codes "check"))

abbrev pub with_folder : App → App
with_folder app = with_works (with_rule (with_rule app (flag_rule (codes "existing"))) (flag_rule (codes "fail-stop")))

abbrev pub with_status : App → App
with_status app = with_rule (with_rule app (number_rule (codes "status") 1 65535)) (number_rule (codes "watchers") 0 64)

abbrev pub with_doors : App → App
with_doors app = with_status (with_rule (with_rule app (number_rule (codes "doors") 1 DOORS)) (number_rule (codes "idle") 0 86400))

abbrev pub with_ring : App → App
with_ring app = with_rule (with_rule (with_rule app listen_rule) (number_rule (codes "leap") 0 999999999)) (text_rule (codes "ring"))

abbrev pub with_tellings : App → App
with_tellings app = with_rule (with_rule (with_rule app (text_rule (codes "log"))) (flag_rule (codes "leaders"))) (flag_rule (codes "verbose"))

abbrev pub ringd_app : App
ringd_app = with_tellings (with_ring (with_doors (with_folder (with_service (with_version (new_app (codes "ringd")))))))

abbrev pub IsIn : ℕ → ℕ → ℕ → Type 0
IsIn low high n = (low ≤ n) × (n ≤ high)

-- the text is this number of the range
abbrev pub IsNumber : ℕ → ℕ → List ℕ → ℕ → Type 0
IsNumber low high text n = IsNumeral 10 (without_leading_plus text) × ((n ≡ digits_value 10 (without_leading_plus text)) × IsIn low high n)

-- the number that is matched, which is one of the range; none where nothing is matched, and there alone
abbrev pub IsMatched : ℕ → ℕ → Option (List ℕ) → Option ℕ → Type 0
IsMatched low high None number = number ≡ None
IsMatched low high (Some text) number = IsSomeAnd number (IsNumber low high text)

-- the number of the range that is matched, or this one where nothing is
abbrev pub IsSaid : ℕ → ℕ → ℕ → Option (List ℕ) → ℕ → Type 0
IsSaid low high else_this None n = n ≡ else_this
IsSaid low high else_this (Some text) n = IsNumber low high text n

-- whether a word without a value is matched
abbrev pub Flag : Option (List ℕ) → Bool → Type 0
Flag text flag = (text ≡ None → flag ≡ false) × ((text ≡ Some (codes "false") → flag ≡ false) × (text ≡ Some (codes "true") → flag ≡ true))

-- the identity whose digits the text is; none where there is no text, and there alone
abbrev pub IsRing : Option (List ℕ) → Option Identity → Type 0
IsRing None ring = ring ≡ None
IsRing (Some text) ring = IsSomeAnd ring (λ id. decode_of text ≡ Ok id.bits)

-- the form that the text names; none where there is no text, and there alone
abbrev pub IsForm : Option (List ℕ) → Option LogForm → Type 0
IsForm None form = form ≡ None
IsForm (Some text) form = IsSomeAnd form (λ told. text ≡ form_name told)

-- what is said by these matches
pub record AreSaidBy (matches : ArgMatches) (told : Words) : Type 0 where
  pub settings : told.settings.now ≡ unwrap_or (first_value (found_of matches) (codes "settings")) (codes "-")
  pub serve : IsMatched 1 1000 (one_text (found_of matches) (codes "serve")) told.serve
  pub always : Flag (one_text (found_of matches) (codes "always")) told.always
  pub make : Flag (one_text (found_of matches) (codes "make")) told.make
  pub check : Flag (one_text (found_of matches) (codes "check")) told.check
  pub existing : Flag (one_text (found_of matches) (codes "existing")) told.existing
  pub fail_stop : Flag (one_text (found_of matches) (codes "fail-stop")) told.fail_stop
  pub doors : IsSaid 1 DOORS 1 (one_text (found_of matches) (codes "doors")) told.doors
  pub idle : IsSaid 0 86400 0 (one_text (found_of matches) (codes "idle")) told.idle
  pub status : IsMatched 1 65535 (one_text (found_of matches) (codes "status")) told.status
  pub watchers : IsSaid 0 64 16 (one_text (found_of matches) (codes "watchers")) told.watchers
  pub listen : IsHost (unwrap_or (first_value (found_of matches) (codes "listen")) (codes "127.0.0.1")) told.listen
  pub far : IsSaid 0 999999999 1000000 (one_text (found_of matches) (codes "leap")) told.leap
  pub ring : IsRing (first_value (found_of matches) (codes "ring")) told.ring
  pub log : IsForm (first_value (found_of matches) (codes "log")) told.log
  pub verbose : Flag (one_text (found_of matches) (codes "verbose")) told.verbose
  pub leaders : Flag (one_text (found_of matches) (codes "leaders")) told.leaders

-- what clap matches to the words
pub record AreTold (words : List (List ℕ)) (told : Words) : Type 0 where
  pub matches : ArgMatches
  pub matched : HasMatchesOf ringd_app words matches
  pub said : AreSaidBy matches told

-- Each number is of its range, beside a port for who tells of the ring a door is left, and leaders are told by a look alone.
pub record AreAllowed (told : Words) : Type 0 where
  pub range : IfSome told.serve (IsIn 1 1000)
  pub doors : IsIn 1 DOORS told.doors
  pub port : IfSome told.status (λ port. (1 ≤ port) × (told.doors < DOORS))
  pub places : IsIn 0 64 told.watchers
  pub leap : IsIn 0 999999999 told.leap
  pub beside : told.leaders ≡ true → told.check ≡ true
