use Rattle.std.proofs.Common.{ℕ, List, Option, [], Vec, Global, unwrap_or}
use Rattle.clap.specs.Words.{found_of, rows_of}
use Rattle.node_run.specs.WordSpelling.{AreIris, AreTurns, IsGiven, IsPeer, SpellsDomain, SpellsId, SpellsName, SpellsRole}
use Rattle.node_run.specs.Words.{AreReadAs}
use Rattle.node_run.proofs.Passing.{fails_at}
use Rattle.node_run.proofs.node.read_node.Goals as goal

pub returns-in_err-id : goal.returns-in_err-id
returns-in_err-id c =
    fails_at (IsGiven SpellsId) (AreReadAs (rows_of (found_of c.args.found.now))) _ _ c.in_err-id.field-0.0
    c.from_residual.result c.text_of.ensures (λ node read. (node.id, read.id)) c.from_residual.ensures.0 c.from_residual.ensures.1 c.in_err-id.ensures

pub returns-in_err-join : goal.returns-in_err-join
returns-in_err-join c =
    fails_at (IsGiven SpellsRole) (AreReadAs (rows_of (found_of c.args.found.now))) _ _ c.in_err-join.field-0.0
    c.from_residual-in_err-join.result c.text_of-2.ensures (λ node read. (node.join, read.role)) c.from_residual-in_err-join.ensures.0 c.from_residual-in_err-join.ensures.1 c.in_err-join.ensures

pub returns-in_err-turns : goal.returns-in_err-turns
returns-in_err-turns c =
    fails_at AreTurns (AreReadAs (rows_of (found_of c.args.found.now))) _ _ c.in_err-turns.field-0.0
    c.from_residual-in_err-turns.result c.text_of-3.ensures (λ node read. (node.turns, read.turns)) c.from_residual-in_err-turns.ensures.0 c.from_residual-in_err-turns.ensures.1 c.in_err-turns.ensures

pub returns-in_err-domain : goal.returns-in_err-domain
returns-in_err-domain c =
    fails_at (IsGiven SpellsDomain) (AreReadAs (rows_of (found_of c.args.found.now))) _ _ c.in_err-domain.field-0.0
    c.from_residual-in_err-domain.result c.text_of-4.ensures (λ node read. (node.domain, read.domain)) c.from_residual-in_err-domain.ensures.0 c.from_residual-in_err-domain.ensures.1 c.in_err-domain.ensures

pub returns-in_err-dir : goal.returns-in_err-dir
returns-in_err-dir c =
    fails_at (IsGiven SpellsName) (AreReadAs (rows_of (found_of c.args.found.now))) _ _ c.in_err-dir.field-0.0
    c.from_residual-in_err-dir.result c.text_of-5.ensures (λ node read. (node.dir, read.dir)) c.from_residual-in_err-dir.ensures.0 c.from_residual-in_err-dir.ensures.1 c.in_err-dir.ensures

pub returns-in_err-listen : goal.returns-in_err-listen
returns-in_err-listen c =
    fails_at (IsGiven SpellsName) (AreReadAs (rows_of (found_of c.args.found.now))) _ _ c.in_err-listen.field-0.0
    c.from_residual-in_err-listen.result c.text_of-6.ensures (λ node read. (node.listen, read.listen)) c.from_residual-in_err-listen.ensures.0 c.from_residual-in_err-listen.ensures.1 c.in_err-listen.ensures

pub returns-in_err-peer : goal.returns-in_err-peer
returns-in_err-peer c =
    fails_at IsPeer (AreReadAs (rows_of (found_of c.args.found.now))) _ _ c.in_err-peer.field-0.0
    c.from_residual-in_err-peer.result c.text_of-7.ensures (λ node read. (node.peer, read.peer)) c.from_residual-in_err-peer.ensures.0 c.from_residual-in_err-peer.ensures.1 c.in_err-peer.ensures

pub returns-in_err-props : goal.returns-in_err-props
returns-in_err-props c =
    fails_at (λ (g : Option (List (List ℕ))) (iris : Vec (List ℕ) Global). AreIris (unwrap_or g []) iris.items) (AreReadAs (rows_of (found_of c.args.found.now))) _ _ c.in_err-props.field-0.0
    c.from_residual-in_err-props.result c.iris_of.ensures (λ node read. (node.props, read.iris)) c.from_residual-in_err-props.ensures.0 c.from_residual-in_err-props.ensures.1 c.in_err-props.ensures
