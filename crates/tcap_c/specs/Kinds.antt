-- The numbers of the kinds of outputs.
use Rattle.std.specs.Prelude.{ℕ}
use Rattle.tcap_model.specs.Words.Output.{Rejector}
use Rattle.tcap_c.specs.declared.output_kind.OutputKind.{OutputKind}
use Rattle.tcap_c.specs.declared.output_kind.OutputKind.TheVariants as kind

-- The number of a kind, which is part of the product (own).
abbrev pub kind_number : OutputKind → ℕ
kind_number kind.Send = 1
kind_number kind.Uni = 2
kind_number kind.Begin = 3
kind_number kind.Continue = 4
kind_number kind.End = 5
kind_number kind.UserAbort = 6
kind_number kind.ProviderAbort = 7
kind_number kind.Invoke = 8
kind_number kind.ResultLast = 9
kind_number kind.ResultNotLast = 10
kind_number kind.Error = 11
kind_number kind.Cancel = 12
kind_number kind.Closed = 13
kind_number kind.LocalReject = 14
kind_number kind.RemoteReject = 15
kind_number kind.UserReject = 16
kind_number kind.Dropped = 17
kind_number kind.UntoldReject = 18

-- The number of an invocation that is given up by its user: the request answers that, and no output tells it. It has a
-- number so that each output can be read back (own).
abbrev pub untold_closing : ℕ
untold_closing = 19

-- The kind of a Reject that closes an invocation: TC-L-REJECT by the component sublayer here, TC-R-REJECT by that of
-- the peer, TC-U-REJECT by the peer's user (Q.771, Component handling).
abbrev pub rejected_kind : Rejector → OutputKind
rejected_kind Rejector.local = kind.LocalReject
rejected_kind Rejector.remote_provider = kind.RemoteReject
rejected_kind Rejector.remote_user = kind.UserReject

-- The kind of a Reject from the peer that closes none (Q.771, Component handling; that one by the component sublayer
-- here has a kind of its own is own).
abbrev pub remote_kind : Rejector → OutputKind
remote_kind Rejector.local = kind.UntoldReject
remote_kind Rejector.remote_provider = kind.RemoteReject
remote_kind Rejector.remote_user = kind.UserReject
