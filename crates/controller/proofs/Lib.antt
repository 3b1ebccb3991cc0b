-- Laws of the controller's rule, and of reading a list past its end.
pub mod ReadLaws
pub mod StandardLaws
