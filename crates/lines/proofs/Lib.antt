-- Laws of what the reader comes to.
pub mod ScanLaws
