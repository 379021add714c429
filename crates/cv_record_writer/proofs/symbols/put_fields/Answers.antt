-- The variables, the procedures, and the records without fields.
use Rattle.rv_bytes.proofs.Puts.{on_ok}
use Rattle.cv_record_writer.specs.SymbolBytes.{datum_bytes, proc_bytes}
use Rattle.cv_record_writer.proofs.SymbolPuts.{end_fields, proc_id_end_fields, ldata_fields, gdata_fields, lproc_fields, gproc_fields, lproc_id_fields, gproc_id_fields}
use Rattle.cv_record_writer.proofs.symbols.put_fields.Goals as goal

pub returns-in-End : goal.returns-in-End
returns-in-End c = rw c.in-End.is (end_fields c.args.out.now)

pub returns-in-ProcIdEnd : goal.returns-in-ProcIdEnd
returns-in-ProcIdEnd c = rw c.in-ProcIdEnd.is (proc_id_end_fields c.args.out.now)

pub returns-in-LData : goal.returns-in-LData
returns-in-LData c = rw c.in-LData.is (on_ok (ldata_fields c.in-LData.variable (datum_bytes c.in-LData.variable) c.args.out.now c.put_datum.new.out) c.put_datum.result c.put_datum.ensures)

pub returns-in-GData : goal.returns-in-GData
returns-in-GData c = rw c.in-GData.is (on_ok (gdata_fields c.in-GData.variable (datum_bytes c.in-GData.variable) c.args.out.now c.put_datum-in-GData.new.out) c.put_datum-in-GData.result c.put_datum-in-GData.ensures)

pub returns-in-LProc : goal.returns-in-LProc
returns-in-LProc c = rw c.in-LProc.is (on_ok (lproc_fields c.in-LProc.procedure (proc_bytes c.in-LProc.procedure) c.args.out.now c.put_proc.new.out) c.put_proc.result c.put_proc.ensures)

pub returns-in-GProc : goal.returns-in-GProc
returns-in-GProc c = rw c.in-GProc.is (on_ok (gproc_fields c.in-GProc.procedure (proc_bytes c.in-GProc.procedure) c.args.out.now c.put_proc-in-GProc.new.out) c.put_proc-in-GProc.result c.put_proc-in-GProc.ensures)

pub returns-in-LProcId : goal.returns-in-LProcId
returns-in-LProcId c = rw c.in-LProcId.is (on_ok (lproc_id_fields c.in-LProcId.procedure (proc_bytes c.in-LProcId.procedure) c.args.out.now c.put_proc-in-LProcId.new.out) c.put_proc-in-LProcId.result c.put_proc-in-LProcId.ensures)

pub returns-in-GProcId : goal.returns-in-GProcId
returns-in-GProcId c = rw c.in-GProcId.is (on_ok (gproc_id_fields c.in-GProcId.procedure (proc_bytes c.in-GProcId.procedure) c.args.out.now c.put_proc-in-GProcId.new.out) c.put_proc-in-GProcId.result c.put_proc-in-GProcId.ensures)
