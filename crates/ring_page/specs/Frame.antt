-- What stands around each page.
use Rattle.std.specs.Prelude.{ℕ, List, ◌++◌, codes}
use Rattle.ring_page.specs.Escaped.{escaped}

unfoldable pub before_title : List ℕ
before_title = codes "<!DOCTYPE html>\n<html lang=\"en\">\n<head>\n<meta charset=\"utf-8\">\n<meta http-equiv=\"refresh\" content=\"5\">\n<meta http-equiv=\"Content-Security-Policy\" content=\"default-src 'none'; style-src 'unsafe-inline'; img-src data:\">\n<meta name=\"viewport\" content=\"width=device-width\">\n<link rel=\"icon\" href=\"data:,\">\n<title>"

unfoldable pub behind_title : List ℕ
behind_title = codes "</title>\n<style>body{font:15px sans-serif;margin:1em}table{border-collapse:collapse}th,td{border:1px solid #888;padding:2px 8px;text-align:right}svg{font-size:10px;text-anchor:middle}.way,.used{fill:none;stroke:#888}.used{stroke:#246;stroke-width:4}.well{fill:#cec}.limit{fill:#ffc;background:#ffc}.full{fill:#fd9;background:#fd9}.hangs,.failed{fill:#fbb;background:#fbb}</style>\n</head>\n<body>\n<h1>"

-- what begins a page, up to the end of its title, which stands at its top too
abbrev pub start_of : List ℕ → List ℕ
start_of title = before_title ++ escaped title ++ behind_title ++ escaped title

unfoldable pub end : List ℕ
end = codes "</body>\n</html>\n"
