-- Heads as bytes: the mark, the generation, the id, the domain, the single-valued properties, the path, and the base, which is a
-- snapshot.
use Rattle.std.specs.Prelude.{ℕ, ◌&&◌, Bool, List, ◌++◌, nat_eq, length, if◌then◌else◌}
use Rattle.std.specs.Cmp.Lexicographic.{pointwise}
use Rattle.std.specs.Str.{is_utf8}
use Rattle.text_rules.specs.Domain.{is_domain}
use Rattle.text_rules.specs.Iri.{is_absolute}
use Rattle.mld_bytes.specs.Bytes.{u64_bytes, piece_bytes}
use Rattle.mld_ops.specs.Messages.{SnapshotValue}
use Rattle.op_codec.specs.StoredLists.{list_bytes, is_above, read_list}
use Rattle.op_codec.specs.MessageBytes.{id_size, snapshot_bytes, read_snapshot}
use Rattle.op_codec.specs.Paths.{path_bytes, read_path}
use Rattle.op_codec.specs.Reading.{Reading, Found, Fault, chain, read_u32, read_piece}
use Rattle.rdf_terms.specs.Order.{iri_cmp}
use Rattle.journal_sides.specs.declared.heads.Head.{Head}
use Rattle.journal_sides.specs.Format.{head_mark, generation_size, u64_number}

-- what a journal begins with, as contracts see it: whose it is, the clone's path, and the base, which has the ticks and the pairs
-- that the clone had before the entries of the journal
pub record HeadValue : Type 0 where
  pub id : List ℕ
  pub domain : List ℕ
  pub properties : List (List ℕ)
  pub path : List ℕ
  pub base : SnapshotValue

abbrev pub head_value : Head → HeadValue
head_value head = record {
  id = head.id;
  domain = head.domain;
  properties = head.props.items;
  path = head.path;
  base = record { ticks = head.base.ticks; pairs = head.tagged };
}

-- a generation and its head
pub record Opening : Type 0 where
  pub generation : ℕ
  pub head : HeadValue

-- ---- as they are written

-- single-valued properties as they are written
unfoldable pub props_bytes : List (List ℕ) → List ℕ
props_bytes props = list_bytes piece_bytes props

-- a head as it is written
unfoldable pub head_bytes : Opening → List ℕ
head_bytes opening =
    head_mark ++ (u64_bytes opening.generation ++ (opening.head.id ++ (piece_bytes opening.head.domain
    ++ (props_bytes opening.head.properties ++ (path_bytes opening.head.path ++ snapshot_bytes opening.head.base)))))

-- ---- as they are read

-- the mark, or a fault where it begins
unfoldable pub read_mark : ℕ → List ℕ → Reading (List ℕ)
read_mark place bytes =
    chain (read_piece (length head_mark) place bytes) (λ piece next rest.
    if pointwise nat_eq piece head_mark then Found piece next rest else Fault place)

-- a generation
unfoldable pub read_generation : ℕ → List ℕ → Reading ℕ
read_generation place bytes = chain (read_piece generation_size place bytes) (λ piece next rest. Found (u64_number piece) next rest)

-- the text that these bytes are, if they are UTF-8 and pass a test, or a fault where they begin
abbrev pub text_at : (List ℕ → Bool) → ℕ → List ℕ → ℕ → List ℕ → Reading (List ℕ)
text_at fits place text next rest = if is_utf8 text && fits text then Found text next rest else Fault place

-- a text that passes a test
unfoldable pub read_text : (List ℕ → Bool) → ℕ → List ℕ → Reading (List ℕ)
read_text fits place bytes =
    chain (read_u32 place bytes) (λ size next rest.
    chain (read_piece size next rest) (λ text end left. text_at fits next text end left))

-- single-valued properties, ascending as terms, each once
unfoldable pub read_props : ℕ → List ℕ → Reading (List (List ℕ))
read_props place bytes = read_list (read_text is_absolute) (is_above iri_cmp) place bytes

-- a head
unfoldable pub read_head : ℕ → List ℕ → Reading Opening
read_head place bytes =
    chain (read_mark place bytes) (λ mark at first.
    chain (read_generation at first) (λ generation after second.
    chain (read_piece id_size after second) (λ id behind third.
    chain (read_text is_domain behind third) (λ domain stop fourth.
    chain (read_props stop fourth) (λ props next fifth.
    chain (read_path next fifth) (λ path more sixth.
    chain (read_snapshot more sixth) (λ base end left.
    Found (record { generation = generation; head = record { id = id; domain = domain; properties = props; path = path; base = base } }) end left)))))))
