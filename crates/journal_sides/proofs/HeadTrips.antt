-- What is written for a head is read as it, and what is read was written so.
use Rattle.std.proofs.Common.{◌≡◌, ℕ, ◌+◌, List, [], ◌++◌, length, sym, ap, ◌∙◌, subst}
use Rattle.text_rules.specs.Domain.{is_domain}
use Rattle.text_rules.specs.Iri.{is_absolute}
use Rattle.mld_bytes.specs.Bytes.{u64_bytes, piece_bytes}
use Rattle.mld_ops.specs.Messages.{SnapshotValue}
use Rattle.op_codec.specs.CodecLaws.{IsReadBack, IsWritten, IsOneSpelling}
use Rattle.op_codec.specs.StoredLists.{is_above}
use Rattle.op_codec.specs.MessageBytes.{id_size, snapshot_bytes, read_snapshot}
use Rattle.op_codec.specs.Paths.{path_bytes, read_path}
use Rattle.op_codec.specs.Reading.{Reading, Found, chain, read_piece}
use Rattle.op_codec.specs.Stored.{IsList}
use Rattle.op_codec.proofs.FieldLaws.{piece_takes}
use Rattle.op_codec.proofs.FieldTrips.{piece_was}
use Rattle.op_codec.proofs.ListTrips.{fitting_from_ascending, ascending_from_fitting, list_back, list_one}
use Rattle.op_codec.proofs.MessageTrips.{snapshot_back, snapshot_one}
use Rattle.op_codec.proofs.PathTrips.{path_back, path_one}
use Rattle.op_codec.proofs.Sequences.{then_back, map_back, splits, bytes_left, same_parts, both_written}
use Rattle.rdf_terms.specs.Order.{iri_cmp}
use Rattle.mld_ops.proofs.PropertiesLaws.{iri_total}
use Rattle.tree_clock.specs.Lists.{IsAscending}
use Rattle.journal_sides.specs.Format.{head_mark}
use Rattle.journal_sides.specs.Heads.{Opening, props_bytes, head_bytes, read_mark, read_generation, read_text, read_props, read_head}
use Rattle.journal_sides.specs.StoredVolumes.{IsText, IsOpening}
use Rattle.journal_sides.proofs.FieldTrips.{mark_back, mark_was, length-u64_bytes, generation_back, generation_was, text_back, text_one}

-- ---- single-valued properties

-- properties
abbrev pub AreProps : List (List ℕ) → Type 0
AreProps props = IsList (IsText is_absolute) (IsAscending iri_cmp) props

-- properties are read back
pub props_back : IsReadBack AreProps props_bytes read_props
unfolding props_bytes read_props
props_back props place rest is =
    list_back (IsText is_absolute) piece_bytes (read_text is_absolute) (is_above iri_cmp) (text_back is_absolute) props place rest is.count is.each (fitting_from_ascending iri_cmp [] props is.ascending)

-- properties were written so
pub props_one : IsOneSpelling AreProps props_bytes read_props
unfolding props_bytes read_props
props_one place bytes props next rest b h =
    let w = list_one (IsText is_absolute) piece_bytes (read_text is_absolute) (is_above iri_cmp) (text_one is_absolute) place bytes props next rest b h in
    record {
      value_is = record { count = w.count; each = w.each; ascending = ascending_from_fitting iri_cmp iri_total [] props tt w.fitting };
      front = w.front;
      next_is = w.next_is;
    }

-- ---- heads

-- the head of these parts, with its generation
abbrev opening_of : ℕ → List ℕ → List ℕ → List (List ℕ) → List ℕ → SnapshotValue → Opening
opening_of generation id domain props path base = record { generation = generation; head = record { id = id; domain = domain; properties = props; path = path; base = base } }

-- what is read behind each part
abbrev behind_path : ℕ → List ℕ → List ℕ → List (List ℕ) → List ℕ → ℕ → List ℕ → Reading Opening
behind_path generation id domain props path place bytes =
    chain (read_snapshot place bytes) (λ base end left. Found (opening_of generation id domain props path base) end left)

abbrev behind_props : ℕ → List ℕ → List ℕ → List (List ℕ) → ℕ → List ℕ → Reading Opening
behind_props generation id domain props place bytes = chain (read_path place bytes) (behind_path generation id domain props)

abbrev behind_domain : ℕ → List ℕ → List ℕ → ℕ → List ℕ → Reading Opening
behind_domain generation id domain place bytes = chain (read_props place bytes) (behind_props generation id domain)

abbrev behind_id : ℕ → List ℕ → ℕ → List ℕ → Reading Opening
behind_id generation id place bytes = chain (read_text is_domain place bytes) (behind_domain generation id)

abbrev behind_generation : ℕ → ℕ → List ℕ → Reading Opening
behind_generation generation place bytes = chain (read_piece id_size place bytes) (behind_id generation)

abbrev behind_mark : List ℕ → ℕ → List ℕ → Reading Opening
behind_mark mark place bytes = chain (read_generation place bytes) behind_generation

-- a head is read back
pub head_back : IsReadBack IsOpening head_bytes read_head
unfolding head_bytes read_head
head_back opening place rest is =
    let g = opening.generation in
    let h = opening.head in
    let six : (at : ℕ) → behind_props g h.id h.domain h.properties at ((path_bytes h.path ++ snapshot_bytes h.base) ++ rest) ≡ Found opening (at + length (path_bytes h.path ++ snapshot_bytes h.base)) rest =
    λ at. then_back read_path (behind_path g h.id h.domain h.properties) at (path_bytes h.path) (snapshot_bytes h.base) rest h.path opening (path_back h.path at (snapshot_bytes h.base ++ rest) is.head.path)
    (map_back (read_snapshot (at + length (path_bytes h.path)) (snapshot_bytes h.base ++ rest)) (opening_of g h.id h.domain h.properties h.path) h.base (at + length (path_bytes h.path) + length (snapshot_bytes h.base)) rest
    (snapshot_back h.base (at + length (path_bytes h.path)) rest is.head.base)) in
    let last : List ℕ = path_bytes h.path ++ snapshot_bytes h.base in
    let five : (at : ℕ) → behind_domain g h.id h.domain at ((props_bytes h.properties ++ last) ++ rest) ≡ Found opening (at + length (props_bytes h.properties ++ last)) rest =
    λ at. then_back read_props (behind_props g h.id h.domain) at (props_bytes h.properties) last rest h.properties opening (props_back h.properties at (last ++ rest) is.head.props) (six (at + length (props_bytes h.properties))) in
    let more : List ℕ = props_bytes h.properties ++ last in
    let four : (at : ℕ) → behind_id g h.id at ((piece_bytes h.domain ++ more) ++ rest) ≡ Found opening (at + length (piece_bytes h.domain ++ more)) rest =
    λ at. then_back (read_text is_domain) (behind_domain g h.id) at (piece_bytes h.domain) more rest h.domain opening (text_back is_domain h.domain at (more ++ rest) is.head.name) (five (at + length (piece_bytes h.domain))) in
    let named : List ℕ = piece_bytes h.domain ++ more in
    let three : (at : ℕ) → behind_generation g at ((h.id ++ named) ++ rest) ≡ Found opening (at + length (h.id ++ named)) rest =
    λ at. then_back (read_piece id_size) (behind_id g) at h.id named rest h.id opening
    (piece_takes id_size at h.id (named ++ rest) is.head.id ∙ ap (λ (n : ℕ). Found h.id (at + n) (named ++ rest)) (sym is.head.id)) (four (at + length h.id)) in
    let owned : List ℕ = h.id ++ named in
    let two : (at : ℕ) → behind_mark head_mark at ((u64_bytes g ++ owned) ++ rest) ≡ Found opening (at + length (u64_bytes g ++ owned)) rest =
    λ at. then_back read_generation behind_generation at (u64_bytes g) owned rest g opening
    (generation_back g at (owned ++ rest) is.generation ∙ ap (λ (n : ℕ). Found g (at + n) (owned ++ rest)) (sym (length-u64_bytes g))) (three (at + length (u64_bytes g))) in
    then_back read_mark behind_mark place head_mark (u64_bytes g ++ owned) rest head_mark opening (mark_back place ((u64_bytes g ++ owned) ++ rest)) (two (place + length head_mark))

-- bytes begin with a front
record Fronts (front : List ℕ) (place : ℕ) (bytes : List ℕ) (next : ℕ) (rest : List ℕ) : Type 0 where
  front_is : bytes ≡ front ++ rest
  next_is : next ≡ place + length front

-- two fronts one behind the other
then_fronts : (first second : List ℕ) (place middle next : ℕ) (bytes between rest : List ℕ) → Fronts first place bytes middle between → Fronts second middle between next rest → Fronts (first ++ second) place bytes next rest
then_fronts first second place middle next bytes between rest f s =
    let both = both_written first second place middle next bytes between rest f.front_is f.next_is s.front_is s.next_is in
    record { front_is = both.front; next_is = both.next_is }

-- a head was written so
pub head_one : IsOneSpelling IsOpening head_bytes read_head
unfolding head_bytes read_head
head_one place bytes opening next rest b h =
    let s = splits (read_mark place bytes) behind_mark opening next rest h in
    let mark = mark_was place bytes s.value s.place s.rest s.first in
    let b1 = bytes_left bytes head_mark s.rest b mark.0 in
    let t = splits (read_generation s.place s.rest) behind_generation opening next rest s.second in
    let generation = generation_was s.place s.rest t.value t.place t.rest b1 t.first in
    let b2 = bytes_left s.rest (u64_bytes t.value) t.rest b1 generation.1 in
    let u = splits (read_piece id_size t.place t.rest) (behind_id t.value) opening next rest t.second in
    let id = piece_was id_size t.place t.rest u.value u.place u.rest u.first in
    let b3 = bytes_left t.rest u.value u.rest b2 id.1 in
    let v = splits (read_text is_domain u.place u.rest) (behind_domain t.value u.value) opening next rest u.second in
    let domain = text_one is_domain u.place u.rest v.value v.place v.rest b3 v.first in
    let b4 = bytes_left u.rest (piece_bytes v.value) v.rest b3 domain.front in
    let w = splits (read_props v.place v.rest) (behind_props t.value u.value v.value) opening next rest v.second in
    let props = props_one v.place v.rest w.value w.place w.rest b4 w.first in
    let b5 = bytes_left v.rest (props_bytes w.value) w.rest b4 props.front in
    let x = splits (read_path w.place w.rest) (behind_path t.value u.value v.value w.value) opening next rest w.second in
    let path = path_one w.place w.rest x.value x.place x.rest b5 x.first in
    let b6 = bytes_left w.rest (path_bytes x.value) x.rest b5 path.front in
    let y = splits (read_snapshot x.place x.rest) (λ base end left. Found (opening_of t.value u.value v.value w.value x.value base) end left) opening next rest x.second in
    let base = snapshot_one x.place x.rest y.value y.place y.rest b6 y.first in
    let made = opening_of t.value u.value v.value w.value x.value y.value in
    let e = same_parts made opening y.place next y.rest rest y.second in
    let six : List ℕ = path_bytes x.value ++ snapshot_bytes y.value in
    let five : List ℕ = props_bytes w.value ++ six in
    let four : List ℕ = piece_bytes v.value ++ five in
    let three : List ℕ = u.value ++ four in
    let two : List ℕ = u64_bytes t.value ++ three in
    let of_base : Fronts (snapshot_bytes y.value) x.place x.rest y.place y.rest = record { front_is = base.front; next_is = base.next_is } in
    let of_path : Fronts six w.place w.rest y.place y.rest = then_fronts (path_bytes x.value) (snapshot_bytes y.value) w.place x.place y.place w.rest x.rest y.rest (record { front_is = path.front; next_is = path.next_is }) of_base in
    let of_props : Fronts five v.place v.rest y.place y.rest = then_fronts (props_bytes w.value) six v.place w.place y.place v.rest w.rest y.rest (record { front_is = props.front; next_is = props.next_is }) of_path in
    let of_domain : Fronts four u.place u.rest y.place y.rest = then_fronts (piece_bytes v.value) five u.place v.place y.place u.rest v.rest y.rest (record { front_is = domain.front; next_is = domain.next_is }) of_props in
    let of_id : Fronts three t.place t.rest y.place y.rest = then_fronts u.value four t.place u.place y.place t.rest u.rest y.rest (record { front_is = id.1; next_is = id.2 ∙ ap (λ (n : ℕ). t.place + n) (sym id.0) }) of_domain in
    let of_generation : Fronts two s.place s.rest y.place y.rest =
    then_fronts (u64_bytes t.value) three s.place t.place y.place s.rest t.rest y.rest (record { front_is = generation.1; next_is = generation.2 ∙ ap (λ (n : ℕ). s.place + n) (sym (length-u64_bytes t.value)) }) of_id in
    let fronts : Fronts (head_mark ++ two) place bytes y.place y.rest = then_fronts head_mark two place s.place y.place bytes s.rest y.rest (record { front_is = mark.0; next_is = mark.1 }) of_generation in
    written made opening y.place next y.rest e.value e.place_is e.rest_is (record {
      generation = generation.0;
      head = record { id = id.0; name = domain.value_is; props = props.value_is; path = path.value_is; base = base.value_is };
    }) fronts.front_is fronts.next_is
  where
    written : (made other : Opening) (end next' : ℕ) (left : List ℕ) → made ≡ other → end ≡ next' → left ≡ rest → IsOpening made → bytes ≡ head_bytes made ++ left → end ≡ place + length (head_bytes made)
        → IsWritten IsOpening head_bytes place bytes other next' rest
    written made other end next' left m n l is front at =
        subst (λ (o : Opening). IsWritten IsOpening head_bytes place bytes o next' rest) m (record {
          value_is = is;
          front = front ∙ ap (λ (rest' : List ℕ). head_bytes made ++ rest') l;
          next_is = sym n ∙ at;
        })
