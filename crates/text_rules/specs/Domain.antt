-- Names of domains: 1 to 200 of `a` to `z`, `0` to `9`, `.` and `-`.
use Rattle.std.specs.Prelude.{ℕ, List, Bool, ◌&&◌, ◌||◌, nat_le, ◌==◌, length}
use Rattle.std.specs.List.{list_all}
use Rattle.text_rules.specs.Iri.{is_digit}

-- how many bytes a name of a domain has at most
abbrev pub domain_limit : ℕ
domain_limit = 200

-- what a name of a domain is made of
abbrev pub is_domain_byte : ℕ → Bool
is_domain_byte byte = (nat_le 97 byte && nat_le byte 122) || is_digit byte || byte == 46 || byte == 45

-- the name of a domain
unfoldable pub is_domain : List ℕ → Bool
is_domain text = nat_le 1 (length text) && nat_le (length text) domain_limit && list_all is_domain_byte text
