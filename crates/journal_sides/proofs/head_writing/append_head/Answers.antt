-- A head, piece by piece.
use Rattle.std.proofs.Common.{◌∙◌, ◌++◌, ap, subst, List, ℕ}
use Rattle.std.specs.List.{AllByRecursion}
use Rattle.text_rules.specs.Iri.{is_absolute}
use Rattle.mld_bytes.specs.Bytes.{u64_bytes, piece_bytes}
use Rattle.op_codec.proofs.Appending.{on_ok}
use Rattle.op_codec.specs.MessageBytes.{snapshot_bytes}
use Rattle.op_codec.specs.Paths.{path_bytes}
use Rattle.journal_sides.specs.Format.{head_mark}
use Rattle.journal_sides.specs.Heads.{head_bytes, props_bytes}
use Rattle.journal_sides.specs.StoredVolumes.{IsText}
use Rattle.journal_sides.proofs.WrittenLaws.{seven_appended}
use Rattle.journal_sides.proofs.head_writing.append_head.Goals as goal

pub returns-clause-ok : goal.returns-clause-ok
unfolding head_bytes
returns-clause-ok c =
    on_ok c.append_base.result
    (λ last.
    seven_appended c.args.out.now.items c.extend_from_slice.new.self.items c.put_u64.new.out.items c.append_own_id.new.out.items c.append_domain.new.out.items c.append_props.new.out.items c.append_own_path.new.out.items c.append_base.new.out.items
    head_mark (u64_bytes c.args.generation) c.args.head.now.id (piece_bytes c.args.head.now.domain) (props_bytes c.args.head.now.props.items) (path_bytes c.args.head.now.path)
    (snapshot_bytes (record { ticks = c.args.head.now.base.ticks; pairs = c.args.head.now.tagged }))
    c.in_ok-extend_from_slice.ensures.items c.in_ok-put_u64.ensures.ok c.in_ok-append_own_id.ensures.ok c.in_ok-append_domain.ensures.ok
    (c.in_ok-append_props.ensures.ok ∙ ap (λ (l : List (List ℕ)). c.append_domain.new.out.items ++ props_bytes l) c.deref.ensures.value)
    c.in_ok-append_own_path.ensures.ok
    last)
    c.append_base.ensures.ok

pub returns-clause-stored : goal.returns-clause-stored
returns-clause-stored c =
    on_ok c.append_base.result
    (λ base. record {
      id = c.in_ok-append_own_id.ensures.stored;
      name = c.in_ok-append_domain.ensures.stored;
      props = record {
        count = c.requires.props_count;
        each = subst (AllByRecursion (IsText is_absolute)) c.deref.ensures.value c.in_ok-append_props.ensures.stored;
        ascending = c.requires.props_ascend;
      };
      path = c.in_ok-append_own_path.ensures.stored;
      base = base;
    })
    c.append_base.ensures.stored
