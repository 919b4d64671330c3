use Rattle.c_text_laws.proofs.Built.{texts_have_bytes}
use Rattle.c_text_laws.proofs.texts_have_bytes.Goals as goal

pub returns : goal.returns
returns c = texts_have_bytes
