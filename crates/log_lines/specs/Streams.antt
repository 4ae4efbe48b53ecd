-- How the system names a stream.
use Rattle.std.specs.Prelude.{ℕ, List, ◌++◌, codes}

-- a socket of this inode
abbrev pub socket_text : List ℕ → List ℕ
socket_text inode = codes "socket:[" ++ inode ++ codes "]"
